use Rattle.std.proofs.Common.{◌≡◌, ◌+◌, ◌-◌, ◌<◌, ◌≤◌, ℕ, List, length, take, drop, get_or, sym, ◌∙◌, ap, arith}
use Rattle.std.specs.Prelude.{map}
use Rattle.std.proofs.lemmas.List.{get_or-map, length-map}
use Rattle.std.proofs.lemmas.List.Elements.{All-push}
use Rattle.condition_sets.specs.declared.amount.TheConstants.{MAX_AMOUNT}
use Rattle.book_propose.specs.Proposals.{Filling, fillings, terms_of}
use Rattle.book_propose.specs.declared.priced.Priced.{Priced}
use Rattle.book_shelves.specs.declared.offer.Offer.{Offer}
use Rattle.book_propose.proofs.Filled.{all_taken, last_more, none_more, terms_more, whole_more}
use Rattle.book_propose.proofs.Fitting.{fit-facts}
use Rattle.book_propose.proofs.fills.terms_with.Goals as goal

abbrev offers_of : List Priced → List Offer
offers_of makers = map (λ m. m.offer) makers

-- the offer that is read, among the offers
read : (makers : List Priced) (i : ℕ) (m : Priced) → i < length makers → m ≡ get_or makers i m → m.offer ≡ get_or (offers_of makers) i m.offer
read makers i m inside item = ap (λ (p : Priced). p.offer) item ∙ sym (get_or-map (λ (p : Priced). p.offer) makers i m m.offer inside)

pub returns-in_default-clause-value : goal.returns-in_default-clause-value
returns-in_default-clause-value c =
    let taker = c.args.taker.now in
    let makers = c.args.makers.now in
    let m = c.candidate-item.result in
    let i = c.loop-candidate.candidate-index in
    let left = taker.rest - c.loop-candidate.terms.fill in
    let inside : i < length (offers_of makers) = omega (arith, length-map makers (λ (p : Priced). p.offer)) in
    let here = read makers i m c.loop-candidate-test.true c.candidate-item.is in
    let all = none_more taker (offers_of makers) i left m.offer inside here c.loop-candidate.invariant.rest (sym c.in_default.is ∙ c.fit_with.ensures.value) in
    c.loop-candidate.invariant.so_far ∙ ap (terms_of taker) all

pub returns-then-fitted-maker-clause-value : goal.returns-then-fitted-maker-clause-value
returns-then-fitted-maker-clause-value c =
    let taker = c.args.taker.now in
    let makers = c.args.makers.now in
    let m = c.candidate-item.result in
    let f = c.in-Some.fitted in
    let i = c.loop-candidate.candidate-index in
    let left = taker.rest - c.loop-candidate.terms.fill in
    let fs : List Filling = fillings taker taker.rest (offers_of makers) in
    let inside : i < length (offers_of makers) = omega (arith, length-map makers (λ (p : Priced). p.offer)) in
    let here = read makers i m c.loop-candidate-test.true c.candidate-item.is in
    let all = last_more taker (offers_of makers) i left m.offer inside here f c.loop-candidate.invariant.rest c.in-Some.ensures.value (omega arith) in
    rw (c.in_ok-push.ensures.ok, c.in_ok-push-2.ensures.ok) (terms_more taker m.offer (take i fs) f c.loop-candidate.terms c.loop-candidate.invariant.so_far ∙ ap (terms_of taker) all)

pub returns-then-fitted-maker-clause-each : goal.returns-then-fitted-maker-clause-each
returns-then-fitted-maker-clause-each c =
    rw c.in_ok-push.ensures.ok (All-push (λ (m : ℕ × ℕ). (1 ≤ m.1) × (m.1 ≤ MAX_AMOUNT)) c.loop-candidate.terms.makers (c.candidate-item.result.offer.order, c.in-Some.fitted.fill) c.loop-candidate.invariant.each c.in-Some.ensures.amount)

pub loop-candidate-preserved : goal.loop-candidate-preserved
loop-candidate-preserved c =
    let taker = c.args.taker.now in
    let makers = c.args.makers.now in
    let m = c.candidate-item.result in
    let f = c.in-Some.fitted in
    let i = c.loop-candidate.candidate-index in
    let left = taker.rest - c.loop-candidate.terms.fill in
    let fs : List Filling = fillings taker taker.rest (offers_of makers) in
    let inside : i < length (offers_of makers) = omega (arith, length-map makers (λ (p : Priced). p.offer)) in
    let here = read makers i m c.loop-candidate-test.true c.candidate-item.is in
    let facts = fit-facts taker m.offer left f (sym c.in-Some.ensures.value) in
    let whole : f.fill ≡ m.offer.rest = omega (arith, facts.fill_within) in
    let more = whole_more taker (offers_of makers) i left m.offer inside here f c.loop-candidate.invariant.rest c.in-Some.ensures.value whole in
    let next : left - f.spent ≡ taker.rest - (c.loop-candidate.terms.fill + f.spent) = omega arith in
    record {
      so_far = rw (c.in_ok-push.ensures.ok, c.in_ok-push-2.ensures.ok) (terms_more taker m.offer (take i fs) f c.loop-candidate.terms c.loop-candidate.invariant.so_far ∙ ap (terms_of taker) (sym more.0));
      rest = more.1 ∙ ap (λ (l : ℕ). fillings taker l (drop (i + 1) (offers_of makers))) next;
      within = omega (arith, c.in-Some.ensures.within);
      each = rw c.in_ok-push.ensures.ok (All-push (λ (m : ℕ × ℕ). (1 ≤ m.1) × (m.1 ≤ MAX_AMOUNT)) c.loop-candidate.terms.makers (m.offer.order, f.fill) c.loop-candidate.invariant.each c.in-Some.ensures.amount);
    }

pub returns-clause-value : goal.returns-clause-value
returns-clause-value c =
    let taker = c.args.taker.now in
    let makers = c.args.makers.now in
    let i = c.loop-candidate.candidate-index in
    let past : length (offers_of makers) ≤ i = omega (arith, length-map makers (λ (p : Priced). p.offer)) in
    c.loop-candidate.invariant.so_far ∙ ap (terms_of taker) (all_taken taker (offers_of makers) i (taker.rest - c.loop-candidate.terms.fill) past c.loop-candidate.invariant.rest)
