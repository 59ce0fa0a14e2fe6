use Rattle.std.proofs.Common.{arith}
use Rattle.wire_json.proofs.Listing.{listed-step}
use Rattle.wire_json.proofs.text.Text.push_listed.Goals as goal

pub loop-place-preserved : goal.loop-place-preserved
loop-place-preserved c = record {
  listed_so_far = listed-step _ _ _ _ _ c.loop-place-test.true c.loop-place.invariant.listed_so_far c.push_item.ensures.text;
  short = omega arith;
}
