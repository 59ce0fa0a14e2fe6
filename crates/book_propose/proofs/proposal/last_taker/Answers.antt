use Rattle.std.proofs.Common.{◌≡◌, ◌-◌, true, false, sym, ◌∙◌, arith, get_or}
use Rattle.std.proofs.lemmas.Option.{get_or_from_slice_get}
use Rattle.book_propose.specs.Proposals.{has_candidate}
use Rattle.book_propose.proofs.Takers.{taker_there, taker_before}
use Rattle.book_propose.proofs.proposal.last_taker.Goals as goal

pub returns-then-has_candidate-clause-value : goal.returns-then-has_candidate-clause-value
returns-then-has_candidate-clause-value c =
    let offers = c.args.snapshot.now in
    let o = c.offer-taker.result in
    let here : get_or offers (c.loop-i.i - 1) o ≡ o = get_or_from_slice_get offers (c.loop-i.i - 1) o o c.offer-taker.ensures.value in
    let has : has_candidate offers o ≡ true = sym c.has_candidate.ensures ∙ c.if-has_candidate.true in
    sym (taker_there offers c.loop-i.i o c.loop-i-test.true (omega arith) here c.loop-i.invariant has)

pub loop-i-preserved : goal.loop-i-preserved
loop-i-preserved c =
    let offers = c.args.snapshot.now in
    let o = c.offer-taker.result in
    let here : get_or offers (c.loop-i.i - 1) o ≡ o = get_or_from_slice_get offers (c.loop-i.i - 1) o o c.offer-taker.ensures.value in
    let has : has_candidate offers o ≡ false = sym c.has_candidate.ensures ∙ c.if-has_candidate.false in
    taker_before offers c.loop-i.i o c.loop-i-test.true (omega arith) here c.loop-i.invariant has
