use Rattle.std.proofs.Common.{◌≡◌, List, Some, ap, sym, take, ◌∙◌}
use Rattle.std.specs.Prelude.{map}
use Rattle.book_propose.specs.Candidates.{candidates, ranked}
use Rattle.book_propose.specs.Pricing.{priced}
use Rattle.book_propose.specs.Proposals.{fillings, makers_for, proposal, terms_of}
use Rattle.book_propose.specs.declared.priced.Priced.{Priced}
use Rattle.book_propose.specs.declared.terms.TheConstants.{MAX_MAKERS}
use Rattle.book_shelves.specs.declared.offer.Offer.{Offer}
use Rattle.book_propose.proofs.Insertion.{offers-priced}
use Rattle.book_propose.proofs.Proposed.{are_terms, best_within, proposed}
use Rattle.book_propose.proofs.proposal.propose.Goals as goal

pub terms_with-requires-clause-makers : goal.terms_with-requires-clause-makers
terms_with-requires-clause-makers c =
    let offers = c.args.snapshot.now in
    let taker = c.in-Some.taker in
    let best : c.deref.result.now ≡ map (priced taker) (take MAX_MAKERS (ranked taker (candidates taker offers))) = c.deref.ensures.value ∙ c.in_ok-makers.ensures in
    rw best (best_within offers taker c.in-Some.ensures.valid)

pub returns-clause-ranges : goal.returns-clause-ranges
returns-clause-ranges c =
    let offers = c.args.snapshot.now in
    let taker = c.in-Some.taker in
    let terms = c.in_ok-terms.terms in
    let best : List Offer = take MAX_MAKERS (ranked taker (candidates taker offers)) in
    let kept : c.deref.result.now ≡ map (priced taker) best = c.deref.ensures.value ∙ c.in_ok-makers.ensures in
    let value : terms ≡ terms_of taker (makers_for offers taker)
    = c.in_ok-terms.ensures.value ∙ ap (λ (ps : List Priced). terms_of taker (fillings taker taker.rest (map (λ p. p.offer) ps))) kept ∙ ap (λ (os : List Offer). terms_of taker (fillings taker taker.rest os)) (offers-priced taker best) in
    let some : proposal offers ≡ Some terms = rw (← c.in-Some.ensures.value) (ap Some (sym value)) in
    are_terms offers terms (proposed offers terms c.in-Some.ensures.valid some) c.in_ok-terms.ensures.within c.in_ok-terms.ensures.each
