use Rattle.std.proofs.Common.{◌≡◌, ◌<◌, length, false, refl, sym, ◌∙◌, ap, arith, get_or}
use Rattle.std.proofs.lemmas.List.Folds.{list_any_at, list_any_more}
use Rattle.std.proofs.lemmas.Option.{get_or_from_slice_get}
use Rattle.book_propose.specs.Candidates.{is_candidate}
use Rattle.book_propose.proofs.proposal.has_candidate.Goals as goal

pub returns-then-is_candidate : goal.returns-then-is_candidate
returns-then-is_candidate c =
    let test = is_candidate c.args.taker.now in
    let o = c.offer.result in
    let here : get_or c.args.snapshot.now c.loop-i.i o ≡ o = get_or_from_slice_get c.args.snapshot.now c.loop-i.i o o c.offer.ensures.value in
    sym (list_any_at test c.args.snapshot.now c.loop-i.i o (omega arith) (ap test here ∙ sym c.is_candidate.ensures ∙ c.if-is_candidate.true))

pub loop-i-preserved : goal.loop-i-preserved
loop-i-preserved c =
    let test = is_candidate c.args.taker.now in
    let o = c.offer.result in
    let here : get_or c.args.snapshot.now c.loop-i.i o ≡ o = get_or_from_slice_get c.args.snapshot.now c.loop-i.i o o c.offer.ensures.value in
    let none : test o ≡ false = sym c.is_candidate.ensures ∙ c.if-is_candidate.false in
    let inside : c.loop-i.i < length c.args.snapshot.now = omega arith in
    rw (list_any_more test c.args.snapshot.now c.loop-i.i o inside, c.loop-i.invariant, here, none) refl
