use Rattle.std.proofs.lemmas.Result.{err_from_is_err_and}
use Rattle.act_bytes.specs.Reading.{next_pair, next_items}
use Rattle.act_bytes.proofs.Loop.{goes_on, ends, is_done}
use Rattle.act_bytes.proofs.lists.pairs_of.Goals as goal

pub returns-in_err-pair : goal.returns-in_err-pair
returns-in_err-pair c =
    let p = err_from_is_err_and c.from_residual.result c.from_residual.ensures.1 in
    rw (p.1, p.2) (ends next_pair c.in_err-pair.field-0.0 c.loop.pairs.items c.args.count c.loop.counter c.loop.rest.now (next_items next_pair c.args.count c.args.bytes.now) c.loop-test.true c.in_err-pair.ensures c.loop.invariant)

pub loop-preserved : goal.loop-preserved
loop-preserved c =
    rw c.in_ok-push.ensures.items (goes_on next_pair c.loop.pairs.items c.args.count c.loop.counter c.loop.rest.now c.in_ok-pair.pair c.in_ok-pair.after.now (next_items next_pair c.args.count c.args.bytes.now) c.loop-test.true c.in_ok-pair.ensures c.loop.invariant)

pub returns : goal.returns
returns c = is_done next_pair c.loop.pairs.items c.args.count c.loop.counter c.loop.rest.now (next_items next_pair c.args.count c.args.bytes.now) c.loop-test.false c.loop.invariant
