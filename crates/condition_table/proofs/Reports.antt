-- What was reported stays possible when a condition is prepared and when one is reported on.
use Rattle.std.proofs.Common.{◌≡◌, ◌≢◌, ℕ, zero, suc, ◌<◌, ◌≤◌, List, [], ◌∷◌, ◌++◌, length, Option, Some, None, refl, sym, ◌∙◌, ap, subst, arith, inl, inr}
use Rattle.std.specs.Prelude.{MatchOption, option_and_then, slice_get, slice_set}
use Rattle.std.proofs.lemmas.Bool.{cases_eq}
use Rattle.std.proofs.lemmas.Option.{MatchOption-at_none, MatchOption-at_some, slice_get_cases, slice_get_past, slice_get_within}
use Rattle.condition_table.specs.Conditions.{AreReports, IsReport, numerators_at}
use Rattle.condition_table.specs.declared.facts.Facts.{Facts}

-- past the end nothing is reported
pub numerators-past : (numerators : List (Option (List ℕ))) (condition : ℕ) → length numerators ≤ condition → numerators_at numerators condition ≡ None
numerators-past numerators condition past = ap (option_and_then (λ r. r)) (slice_get_past numerators condition past)

-- what was reported doesn't change when a condition is prepared
pub numerators-push : (numerators : List (Option (List ℕ))) (condition : ℕ) → numerators_at (numerators ++ None ∷ []) condition ≡ numerators_at numerators condition
numerators-push [] zero = refl
numerators-push [] (suc i) = refl
numerators-push (x ∷ xs) zero = refl
numerators-push (x ∷ xs) (suc i) = numerators-push xs i

-- inside a list one element more at its end changes nothing
get-front : {X : Type 0} (xs : List X) (x : X) (i : ℕ) → i < length xs → slice_get (xs ++ x ∷ []) i ≡ slice_get xs i
get-front [] x i inside = absurd (omega arith)
get-front (y ∷ ys) x zero inside = refl
get-front (y ∷ ys) x (suc i) inside = get-front ys x i (omega arith)

-- what is found somewhere is inside
numerators-within : (numerators : List (Option (List ℕ))) (condition : ℕ) (ns : List ℕ) → numerators_at numerators condition ≡ Some ns → condition < length numerators
numerators-within [] i ns is = cc
numerators-within (x ∷ xs) zero ns is = omega arith
numerators-within (x ∷ xs) (suc i) ns is = let rest = numerators-within xs i ns is in omega arith

-- a condition more, with nothing reported
pub reports-push : (facts : List Facts) (numerators : List (Option (List ℕ))) (f : Facts) → length numerators ≡ length facts → AreReports facts numerators → AreReports (facts ++ f ∷ []) (numerators ++ None ∷ [])
reports-push facts numerators f same so_far = λ condition g ns there reported.
    let old : numerators_at numerators condition ≡ Some ns = sym (numerators-push numerators condition) ∙ reported in
    let inside : condition < length facts = let within = numerators-within numerators condition ns old in omega arith in
    so_far condition g ns (sym (get-front facts f condition inside) ∙ there) old

-- what is put at a place is reported there
pub set-here : (numerators : List (Option (List ℕ))) (condition : ℕ) (reported : List ℕ) → condition < length numerators → numerators_at (slice_set numerators condition (Some reported)) condition ≡ Some reported
set-here [] i reported inside = absurd (omega arith)
set-here (x ∷ xs) zero reported inside = refl
set-here (x ∷ xs) (suc i) reported inside = set-here xs i reported (omega arith)

-- and elsewhere nothing changes
pub set-elsewhere : (numerators : List (Option (List ℕ))) (condition other : ℕ) (reported : Option (List ℕ)) → other ≢ condition → numerators_at (slice_set numerators condition reported) other ≡ numerators_at numerators other
set-elsewhere [] i j reported apart = refl
set-elsewhere (x ∷ xs) zero zero reported apart = absurd (apart refl)
set-elsewhere (x ∷ xs) zero (suc j) reported apart = refl
set-elsewhere (x ∷ xs) (suc i) zero reported apart = refl
set-elsewhere (x ∷ xs) (suc i) (suc j) reported apart = set-elsewhere xs i j reported (λ same. apart (omega arith))

-- a report on a condition of such facts, which may be made on it
reports-set : (facts : List Facts) (numerators : List (Option (List ℕ))) (condition : ℕ) (reported : List ℕ) (f : Facts) → length numerators ≡ length facts
    → slice_get facts condition ≡ Some f → IsReport f.slots reported → AreReports facts numerators → AreReports facts (slice_set numerators condition (Some reported))
reports-set facts numerators condition reported f same prepared report so_far = λ other g ns there found.
    let inside : condition < length numerators = let within = slice_get_within facts condition f prepared in omega arith in
    elim (cases_eq other condition) [
      | inl here ↦
          let at_condition : Some g ≡ Some f = sym there ∙ (ap (slice_get facts) here ∙ prepared) in
          let at_reported : Some ns ≡ Some reported = sym found ∙ (ap (numerators_at (slice_set numerators condition (Some reported))) here ∙ set-here numerators condition reported inside) in
          let facts_same : f ≡ g = cc in
          let numerators_same : reported ≡ ns = cc in
          subst (λ (h : Facts). IsReport h.slots ns) facts_same (subst (λ (xs : List ℕ). IsReport f.slots xs) numerators_same report)
      | inr apart ↦ so_far other g ns there (sym (set-elsewhere numerators condition other (Some reported) apart) ∙ found)
    ]

-- the same of what a caller has to know of the report
pub reports-made : (facts : List Facts) (numerators : List (Option (List ℕ))) (condition : ℕ) (reported : List ℕ) → length numerators ≡ length facts
    → MatchOption (slice_get facts condition) ⊥ (λ f. IsReport f.slots reported) → AreReports facts numerators → AreReports facts (slice_set numerators condition (Some reported))
reports-made facts numerators condition reported same may so_far =
    elim ((slice_get_cases facts condition).1) [
      | inl there ↦ reports-set facts numerators condition reported there.0 same there.2 (MatchOption-at_some ⊥ (λ (f : Facts). IsReport f.slots reported) there.0 there.2 may) so_far
      | inr past ↦ absurd (MatchOption-at_none ⊥ (λ (f : Facts). IsReport f.slots reported) past.1 may)
    ]
