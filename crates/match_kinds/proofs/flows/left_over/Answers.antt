use Rattle.std.proofs.Common.{◌≡◌, ◌+◌, true, take, arith}
use Rattle.match_kinds.proofs.Shortness.{enough_more, neither_short, paid_short, short_there, sums_more, taken_short}
use Rattle.match_kinds.specs.Settling.{runs_short}
use Rattle.match_kinds.proofs.flows.left_over.Goals as goal
use Rattle.match_kinds.proofs.flows.left_over.Goals.{then-all-via-then-all, then-all-via-else-all+then-all-2}

pub returns-then-all-clause-short : goal.returns-then-all-clause-short
returns-then-all-clause-short c =
    let taker = c.args.taker.now in
    let makers = c.args.makers.now in
    let i = c.loop-index.index in
    let all = c.loop-index.all in
    let more = c.flow-more.result in
    let sums = sums_more taker makers i c.index-makers-index.result all.paid_in all.paid_out all.taken_in all.taken_out more.paid_in more.paid_out more.taken_in more.taken_out c.loop-index-test.true c.index-makers-index.is c.loop-index.invariant.sums c.flow-more.ensures.paid_in c.flow-more.ensures.paid_out c.flow-more.ensures.taken_in c.flow-more.ensures.taken_out in
    let short : runs_short taker (take (i + 1) makers) ≡ true
    = elim c.then-all.branch [
      | then-all-via-then-all w ↦ paid_short taker (take (i + 1) makers) _ _ _ _ sums w.if-all.true
      | then-all-via-else-all+then-all-2 w ↦ taken_short taker (take (i + 1) makers) _ _ _ _ sums w.if-all-2.true
    ] in
    short_there taker makers i c.loop-index-test.true c.loop-index.invariant.so_far short

pub loop-index-preserved : goal.loop-index-preserved
loop-index-preserved c =
    let taker = c.args.taker.now in
    let makers = c.args.makers.now in
    let i = c.loop-index.index in
    let all = c.loop-index.all in
    let more = c.flow-more.result in
    let sums = sums_more taker makers i c.index-makers-index.result all.paid_in all.paid_out all.taken_in all.taken_out more.paid_in more.paid_out more.taken_in more.taken_out c.loop-index-test.true c.index-makers-index.is c.loop-index.invariant.sums c.flow-more.ensures.paid_in c.flow-more.ensures.paid_out c.flow-more.ensures.taken_in c.flow-more.ensures.taken_out in
    let enough = neither_short taker (take (i + 1) makers) _ _ _ _ sums c.if-all.false c.if-all-2.false in
    record {
      sums = sums;
      paid_in_within = omega arith;
      paid_out_within = omega arith;
      taken_in_within = omega arith;
      taken_out_within = omega arith;
      paid_enough = omega arith;
      taken_enough = omega arith;
      so_far = enough_more taker makers i c.loop-index-test.true c.loop-index.invariant.so_far enough;
    }
