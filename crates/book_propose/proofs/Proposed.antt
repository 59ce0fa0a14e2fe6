-- What is proposed on a snapshot, and where nothing is.
use Rattle.std.proofs.Common.{◌≡◌, ◌≢◌, ℕ, suc, ◌-◌, ◌≤◌, Bool, true, false, cond, not, List, [], ◌∷◌, length, take, Option, Some, None, refl, sym, ◌∙◌, ap, subst, arith}
use Rattle.std.specs.Prelude.{◌==◌, ◌&&◌, ◌||◌, ◌↔◌, All, AllPairs, Contains, filter, is_some, map, option_map, sum, sum_by}
use Rattle.std.specs.List.{list_any}
use Rattle.std.proofs.lemmas.Bool.{and_parts, eqb-false, not-true, or_parts}
use Rattle.std.proofs.lemmas.List.{length-map, length-take}
use Rattle.std.proofs.lemmas.List.Elements.{All-cons, All-contains_itself, All-filter, All-head, All-map, All-nil, All-tail, All-take, All-weaker, Contains-append_right}
use Rattle.std.proofs.lemmas.List.Kept.{AllPairs-cons}
use Rattle.std.proofs.lemmas.List.Sums.{sum-map, sum_by-cons}
use Rattle.book_propose.specs.Candidates.{candidates, crosses_by, fit_with, is_candidate, kind_with, ranked}
use Rattle.book_propose.specs.Proposals.{AreTerms, Filling, IsFilling, IsProposal, IsRanked, fillings, has_candidate, last_taker, makers_for, or_this, proposal, terms_of}
use Rattle.book_propose.specs.Pricing.{priced}
use Rattle.book_propose.specs.declared.priced.Priced.{Priced}
use Rattle.book_propose.specs.declared.terms.MatchTerms.{MatchTerms}
use Rattle.book_propose.specs.declared.terms.TheConstants.{MAX_MAKERS}
use Rattle.book_propose.proofs.Fitting.{fit-facts}
use Rattle.book_propose.proofs.Fronts.{fillings_by}
use Rattle.book_propose.proofs.Insertion.{All-ranked, length-ranked}
use Rattle.book_propose.proofs.Order.{candidates-are, is_apart, ranked-apart}
use Rattle.condition_sets.specs.declared.amount.TheConstants.{MAX_AMOUNT}
use Rattle.book_shelves.specs.Shelves.{IsSnapshot}
use Rattle.book_shelves.specs.declared.offer.Offer.{Offer}
use Rattle.order_rules.specs.declared.fits.Fitted.{Fitted}

-- ---- an offer that has candidates, and one that has none

none_any : (p : Offer → Bool) (os : List Offer) → list_any p os ≡ false → filter p os ≡ []
none_any p [] none = refl
none_any p (o ∷ os) none =
    let parts = or_parts (p o) (list_any p os) none in
    rw parts.0 (none_any p os parts.1)

any_none : (p : Offer → Bool) (os : List Offer) → filter p os ≡ [] → list_any p os ≡ false
any_none p [] none = refl
any_none p (o ∷ os) none = by_test (p o) none (any_none p os)
  where
    by_test : (b : Bool) → cond b (o ∷ filter p os) (filter p os) ≡ [] → (filter p os ≡ [] → list_any p os ≡ false) → (b || list_any p os) ≡ false
    by_test true there behind = cc
    by_test false there behind = behind there

-- ---- the taker

or_this-parts : (a b : Option Offer) → or_this a b ≡ None → (a ≡ None) × (b ≡ None)
or_this-parts None b none = (refl, none)
or_this-parts (Some o) b none = cc

if_none : (b : Bool) (o : Offer) → cond b (Some o) None ≡ None → b ≡ false
if_none true o none = cc
if_none false o none = refl

none_has : (snapshot os : List Offer) → last_taker snapshot os ≡ None → All (λ o. candidates o snapshot ≡ []) os
none_has snapshot [] none = All-nil (λ o. candidates o snapshot ≡ [])
none_has snapshot (o ∷ os) none =
    let parts = or_this-parts (last_taker snapshot os) (cond (has_candidate snapshot o) (Some o) None) none in
    All-cons (λ p. candidates p snapshot ≡ []) o os (none_any (is_candidate o) snapshot (if_none (has_candidate snapshot o) o parts.1)) (none_has snapshot os parts.0)

has_none : (snapshot os : List Offer) → All (λ o. candidates o snapshot ≡ []) os → last_taker snapshot os ≡ None
has_none snapshot [] none = refl
has_none snapshot (o ∷ os) none =
    let here : has_candidate snapshot o ≡ false = any_none (is_candidate o) snapshot (All-head (λ p. candidates p snapshot ≡ []) o os none) in
    rw (has_none snapshot os (All-tail (λ p. candidates p snapshot ≡ []) o os none), here) refl

map_none : (f : Offer → MatchTerms) (o : Option Offer) → option_map f o ≡ None → o ≡ None
map_none f None none = refl
map_none f (Some o) none = cc

pub none-none : (offers : List Offer) → (proposal offers ≡ None) ↔ All (λ taker. candidates taker offers ≡ []) offers
none-none offers = (
  λ none. none_has offers offers (map_none (λ taker. terms_of taker (makers_for offers taker)) (last_taker offers offers) none),
  λ none. ap (option_map (λ taker. terms_of taker (makers_for offers taker))) (has_none offers offers none),
)

map_some : (f : Offer → MatchTerms) (o : Option Offer) (terms : MatchTerms) → option_map f o ≡ Some terms → (taker : Offer) × (o ≡ Some taker) × (terms ≡ f taker)
map_some f None terms some = cc
map_some f (Some taker) terms some = (taker, refl, cc)

-- it is among the offers, and has a candidate
taker_found : (snapshot os : List Offer) (taker : Offer) → last_taker snapshot os ≡ Some taker → Contains os taker × (has_candidate snapshot taker ≡ true)
taker_found snapshot [] taker found = cc
taker_found snapshot (o ∷ os) taker found = by_last (last_taker snapshot os) (has_candidate snapshot o) refl refl found (taker_found snapshot os taker)
  where
    by_last : (last : Option Offer) (has : Bool) → last_taker snapshot os ≡ last → has_candidate snapshot o ≡ has → or_this last (cond has (Some o) None) ≡ Some taker
        → (last_taker snapshot os ≡ Some taker → Contains os taker × (has_candidate snapshot taker ≡ true)) → Contains (o ∷ os) taker × (has_candidate snapshot taker ≡ true)
    by_last (Some p) has last_is has_is is behind =
        let both = behind (last_is ∙ is) in
        (Contains-append_right (o ∷ []) os taker both.0, both.1)
    by_last None true last_is has_is is behind =
        let here : o ≡ taker = cc in
        (subst (Contains (o ∷ os)) here (All-head (Contains (o ∷ os)) o os (All-contains_itself (o ∷ os))), rw (← here) has_is)
    by_last None false last_is has_is is behind = cc

-- ---- its makers

-- what holds of each maker that is given holds of each that is filled
each_maker : (P : Offer → Type 0) (taker : Offer) (left : ℕ) (ms : List Offer) → All P ms → All (λ f. P f.maker) (fillings taker left ms)
each_maker P taker left [] each = All-nil (λ f. P f.maker)
each_maker P taker left (m ∷ ms) each = by_fit (λ l. each_maker P taker l ms (All-tail P m ms each))
  where
    by_fit : ((l : ℕ) → All (λ f. P f.maker) (fillings taker l ms)) → All (λ f. P f.maker) (fillings taker left (m ∷ ms))
    by_fit behind =
        fillings_by (All (λ f. P f.maker)) taker m left ms
        (λ _. All-nil (λ f. P f.maker))
        (λ f _ _. All-cons (λ g. P g.maker) (record { maker = m; fitted = f }) [] (All-head P m ms each) (All-nil (λ g. P g.maker)))
        (λ f _ _. All-cons (λ g. P g.maker) (record { maker = m; fitted = f }) (fillings taker (left - f.spent) ms) (All-head P m ms each) (behind (left - f.spent)))

makers_apart : (taker : Offer) (left : ℕ) (ms : List Offer) → IsRanked is_apart ms → AllPairs (λ f g. f.maker.order ≢ g.maker.order) (fillings taker left ms)
makers_apart taker left [] apart = λ i j d before inside. absurd (omega (arith, inside))
makers_apart taker left (m ∷ ms) apart = by_fit (λ l. makers_apart taker l ms apart.1)
  where
    by_fit : ((l : ℕ) → AllPairs (λ f g. f.maker.order ≢ g.maker.order) (fillings taker l ms)) → AllPairs (λ f g. f.maker.order ≢ g.maker.order) (fillings taker left (m ∷ ms))
    by_fit behind =
        let others = All-weaker (λ p. is_apart m p ≡ true) (λ p. m.order ≢ p.order) (λ p differs. eqb-false m.order p.order (not-true (m.order == p.order) differs)) ms apart.0 in
        fillings_by (AllPairs (λ f g. f.maker.order ≢ g.maker.order)) taker m left ms
        (λ _ i j d before inside. absurd (omega (arith, inside)))
        (λ f _ _ i j d before inside. absurd (omega (arith, before, inside)))
        (λ f _ _. AllPairs-cons (λ g h. g.maker.order ≢ h.maker.order) (record { maker = m; fitted = f }) (fillings taker (left - f.spent) ms) (each_maker (λ p. m.order ≢ p.order) taker (left - f.spent) ms others) (behind (left - f.spent)))

-- no more is spent than is left
sum_within : (taker : Offer) (left : ℕ) (ms : List Offer) → sum_by (λ f. f.fitted.spent) (fillings taker left ms) ≤ left
sum_within taker left [] = omega arith
sum_within taker left (m ∷ ms) = by_fit (λ l. sum_within taker l ms)
  where
    by_fit : ((l : ℕ) → sum_by (λ f. f.fitted.spent) (fillings taker l ms) ≤ l) → sum_by (λ f. f.fitted.spent) (fillings taker left (m ∷ ms)) ≤ left
    by_fit behind =
        fillings_by (λ (fs : List Filling). sum_by (λ f. f.fitted.spent) fs ≤ left) taker m left ms
        (λ _. omega arith)
        (λ f fits _. omega (arith, (fit-facts taker m left f fits).spent_within))
        (λ f fits _. omega (arith, (fit-facts taker m left f fits).spent_within, behind (left - f.spent), sum_by-cons (λ (g : Filling). g.fitted.spent) (record { maker = m; fitted = f }) (fillings taker (left - f.spent) ms)))

few_fillings : (taker : Offer) (left : ℕ) (ms : List Offer) → length (fillings taker left ms) ≤ length ms
few_fillings taker left [] = omega arith
few_fillings taker left (m ∷ ms) = by_fit (λ l. few_fillings taker l ms)
  where
    by_fit : ((l : ℕ) → length (fillings taker l ms) ≤ length ms) → length (fillings taker left (m ∷ ms)) ≤ suc (length ms)
    by_fit behind =
        fillings_by (λ (fs : List Filling). length fs ≤ suc (length ms)) taker m left ms
        (λ _. omega arith)
        (λ f _ _. omega arith)
        (λ f _ _. omega (arith, behind (left - f.spent)))

module _ (offers : List Offer) (taker : Offer) where
  each_filling : (left : ℕ) (ms : List Offer) → left ≤ taker.rest → All (λ o. Contains offers o × (is_candidate taker o ≡ true)) ms → All (IsFilling offers taker) (fillings taker left ms)
  each_filling left [] within each = All-nil (IsFilling offers taker)
  each_filling left (m ∷ ms) within each = by_fit (λ l less. each_filling l ms less (All-tail (λ o. Contains offers o × (is_candidate taker o ≡ true)) m ms each))
    where
      here : Contains offers m × (is_candidate taker m ≡ true)
      here = All-head (λ o. Contains offers o × (is_candidate taker o ≡ true)) m ms each

      filled : (f : Fitted) → fit_with taker m left ≡ Some f → IsFilling offers taker (record { maker = m; fitted = f })
      filled f fits =
          let facts = fit-facts taker m left f fits in
          record { among = here.0; candidate = here.1; fits = (left, within, fits); some = facts.fill_some; within = facts.fill_within }

      by_fit : ((l : ℕ) → l ≤ taker.rest → All (IsFilling offers taker) (fillings taker l ms)) → All (IsFilling offers taker) (fillings taker left (m ∷ ms))
      by_fit behind =
          fillings_by (All (IsFilling offers taker)) taker m left ms
          (λ _. All-nil (IsFilling offers taker))
          (λ f fits _. All-cons (IsFilling offers taker) (record { maker = m; fitted = f }) [] (filled f fits) (All-nil (IsFilling offers taker)))
          (λ f fits _. All-cons (IsFilling offers taker) (record { maker = m; fitted = f }) (fillings taker (left - f.spent) ms) (filled f fits) (behind (left - f.spent) (omega (arith, within))))

-- a candidate fits into the whole rest, so that one is filled where there is one
candidate_fits : (taker m : Offer) → is_candidate taker m ≡ true → is_some (fit_with taker m taker.rest) ≡ true
candidate_fits taker m candidate =
    let crosses = and_parts (not (m.account == taker.account)) (crosses_by (kind_with taker m) taker.limit m.limit && is_some (fit_with taker m taker.rest)) candidate in
    (and_parts (crosses_by (kind_with taker m) taker.limit m.limit) (is_some (fit_with taker m taker.rest)) crosses.1).1

some_fillings : (taker : Offer) (ms : List Offer) → 1 ≤ length ms → All (λ m. is_candidate taker m ≡ true) ms → 1 ≤ length (fillings taker taker.rest ms)
some_fillings taker [] some each = absurd (omega (arith, some))
some_fillings taker (m ∷ ms) some each =
    let fits = candidate_fits taker m (All-head (λ o. is_candidate taker o ≡ true) m ms each) in
    fillings_by (λ (fs : List Filling). 1 ≤ length fs) taker m taker.rest ms
    (λ none. let no : is_some (fit_with taker m taker.rest) ≡ false = ap is_some none in cc)
    (λ f _ _. omega arith)
    (λ f _ _. omega arith)

some_candidates : (taker : Offer) (offers : List Offer) → has_candidate offers taker ≡ true → 1 ≤ length (candidates taker offers)
some_candidates taker offers has = by_list (candidates taker offers) refl
  where
    by_list : (cs : List Offer) → candidates taker offers ≡ cs → 1 ≤ length cs
    by_list [] none = let no = any_none (is_candidate taker) offers none in cc
    by_list (x ∷ xs) is = omega arith

-- ---- the proposal

pub proposed : (offers : List Offer) (terms : MatchTerms) → IsSnapshot offers → proposal offers ≡ Some terms → IsProposal offers terms
proposed offers terms snapshot some =
    let found = map_some (λ t. terms_of t (makers_for offers t)) (last_taker offers offers) terms some in
    let taker : Offer = found.0 in
    let is = taker_found offers offers taker found.1 in
    let best : List Offer = take MAX_MAKERS (ranked taker (candidates taker offers)) in
    let are = All-take (λ o. Contains offers o × (is_candidate taker o ≡ true)) MAX_MAKERS (ranked taker (candidates taker offers)) (candidates-are taker offers) in
    let there : 1 ≤ length best = omega (arith, length-take MAX_MAKERS (ranked taker (candidates taker offers)), length-ranked taker (candidates taker offers), some_candidates taker offers is.1) in
    record {
      taker = taker;
      among = is.0;
      terms_are = found.2;
      makers_some = some_fillings taker best there (All-weaker (λ o. Contains offers o × (is_candidate taker o ≡ true)) (λ o. is_candidate taker o ≡ true) (λ o both. both.1) best are);
      makers_few = omega (arith, few_fillings taker taker.rest best, length-take MAX_MAKERS (ranked taker (candidates taker offers)));
      each = each_filling offers taker taker.rest best (omega arith) are;
      apart = makers_apart taker taker.rest best (ranked-apart taker offers snapshot MAX_MAKERS);
      within = sum_within taker taker.rest best;
    }

-- ---- its terms

some_spent : (fs : List Filling) → 1 ≤ length fs → All (λ f. 1 ≤ f.fitted.spent) fs → 1 ≤ sum_by (λ f. f.fitted.spent) fs
some_spent [] some each = absurd (omega (arith, some))
some_spent (f ∷ fs) some each = omega (arith, sum_by-cons (λ (g : Filling). g.fitted.spent) f fs, All-head (λ g. 1 ≤ g.fitted.spent) f fs each)

-- where its amounts are within their bound, they are the terms of a match
pub are_terms : (offers : List Offer) (terms : MatchTerms) → IsProposal offers terms → terms.fill ≤ MAX_AMOUNT → All (λ m. (1 ≤ m.1) × (m.1 ≤ MAX_AMOUNT)) terms.makers → AreTerms terms
are_terms offers terms proposal within each =
    let fs : List Filling = makers_for offers proposal.taker in
    let fill : terms.fill ≡ sum_by (λ f. f.fitted.spent) fs = ap (λ (t : MatchTerms). t.fill) proposal.terms_are in
    let many : length terms.makers ≡ length fs = ap (λ (t : MatchTerms). length t.makers) proposal.terms_are ∙ length-map {B = ℕ × ℕ} fs (λ (f : Filling). (f.maker.order, f.fitted.fill)) in
    let spent : terms.spent ≡ map (λ f. f.fitted.spent) fs = ap (λ (t : MatchTerms). t.spent) proposal.terms_are in
    let each_spent = All-weaker (IsFilling offers proposal.taker) (λ f. 1 ≤ f.fitted.spent) (λ f filled. (fit-facts proposal.taker f.maker filled.fits.0 f.fitted filled.fits.2).spent_some) fs proposal.each in
    record {
      some = omega (arith, fill, some_spent fs proposal.makers_some each_spent);
      within = within;
      makers_some = omega (arith, many, proposal.makers_some);
      makers_few = omega (arith, many, proposal.makers_few);
      each = each;
      spent = subst (All (λ n. 1 ≤ n)) (sym spent) (All-map (λ n. 1 ≤ n) (λ (f : Filling). f.fitted.spent) fs each_spent);
      fill = fill ∙ (sym (sum-map (λ (f : Filling). f.fitted.spent) fs) ∙ ap sum (sym spent));
    }

-- the best of a snapshot have rests within their limits
pub best_within : (offers : List Offer) (taker : Offer) → IsSnapshot offers → All (λ p. p.offer.rest ≤ p.offer.limit.making) (map (priced taker) (take MAX_MAKERS (ranked taker (candidates taker offers))))
best_within offers taker snapshot =
    let cs = All-filter (is_candidate taker) (λ o. o.rest ≤ o.limit.making) offers snapshot.within in
    let best = All-take (λ o. o.rest ≤ o.limit.making) MAX_MAKERS (ranked taker (candidates taker offers)) (All-ranked (λ o. o.rest ≤ o.limit.making) taker (candidates taker offers) cs) in
    All-map (λ (p : Priced). p.offer.rest ≤ p.offer.limit.making) (priced taker) (take MAX_MAKERS (ranked taker (candidates taker offers))) best
