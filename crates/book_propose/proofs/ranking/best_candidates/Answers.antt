use Rattle.std.proofs.Common.{◌≡◌, ◌<◌, length, sym, ◌∙◌, ap, arith, get_or, true, false, take}
use Rattle.std.specs.Prelude.{map, List}
use Rattle.std.proofs.lemmas.List.{length-take}
use Rattle.std.proofs.lemmas.Option.{get_or_from_slice_get}
use Rattle.book_propose.specs.Candidates.{candidates, is_candidate, ranked}
use Rattle.book_propose.specs.Pricing.{priced}
use Rattle.book_propose.specs.declared.terms.TheConstants.{MAX_MAKERS}
use Rattle.book_shelves.specs.declared.offer.Offer.{Offer}
use Rattle.book_propose.proofs.Insertion.{ranked_more, ranked_same}
use Rattle.book_propose.proofs.ranking.best_candidates.Goals as goal
use Rattle.book_propose.proofs.ranking.best_candidates.Goals.{then-is_candidate+in_ok-keep, else-is_candidate}

pub loop-i-preserved : goal.loop-i-preserved
loop-i-preserved c =
    let taker = c.args.taker.now in
    let offers = c.args.snapshot.now in
    let i = c.loop-i.i in
    let o = c.offer-offer.result in
    let kept : List Offer = take MAX_MAKERS (ranked taker (candidates taker (take i offers))) in
    let here : get_or offers i o ≡ o = get_or_from_slice_get offers i o o c.offer-offer.ensures.value in
    let inside : i < length offers = omega arith in
    elim c.if-is_candidate.branch [
      | then-is_candidate+in_ok-keep w ↦
          let candidate : is_candidate taker o ≡ true = sym c.is_candidate.ensures ∙ w.if-is_candidate.true in
          rw w.best-is (w.in_ok-keep.ensures kept (omega (arith, length-take MAX_MAKERS (ranked taker (candidates taker (take i offers))))) c.loop-i.invariant ∙ ap (map (priced taker)) (sym (ranked_more taker o MAX_MAKERS i offers inside here candidate)))
      | else-is_candidate w ↦
          let none : is_candidate taker o ≡ false = sym c.is_candidate.ensures ∙ w.if-is_candidate.false in
          rw w.best-is (c.loop-i.invariant ∙ ap (λ (cs : List Offer). map (priced taker) (take MAX_MAKERS (ranked taker cs))) (sym (ranked_same taker o i offers inside here none)))
    ]
