-- When no supply would be above its limit.
use Rattle.std.proofs.Common.{◌≡◌, ℕ, ◌+◌, ◌≤◌, List, [], ◌∷◌, Bool, true, false, Option, Some, None, refl, sym, ◌∙◌, ap, subst, arith, ◌⊎◌, inl, inr}
use Rattle.std.specs.Prelude.{◌&&◌, option_map}
use Rattle.std.proofs.lemmas.Bool.{cases_Bool, cond-true, cond-false}
use Rattle.std.proofs.lemmas.Bool.Decides.{nat_tests}
use Rattle.std.proofs.lemmas.List.Sums.{sum_by-cons}
use Rattle.condition_sets.specs.declared.amount.TheConstants.{MAX_AMOUNT}
use Rattle.ledger_book.specs.declared.posting.Posting.{Posting}
use Rattle.collection_keys.specs.Collections.{Pairs}
use Rattle.collection_keys.specs.Comparing.{same_collection}
use Rattle.ledger_book.specs.Postings.{paid_to, taken_from, minted, burnt}
use Rattle.ledger_book.specs.Staging.{comes_before, least_from, is_above_supply, oversupplied}
use Rattle.ledger_book.proofs.Positions.{collection_Decides}

-- what is found stays found
still_found : (test : Pairs → Bool) (ps : List Posting) (k : Pairs) → least_from test (Some k) ps ≡ None → ⊥
still_found test [] k none = cc
still_found test (p ∷ ps) k none =
    elim (cases_Bool (test p.collection && comes_before p.collection (Some k))) [
      | inl less ↦ still_found test ps p.collection (sym (ap (λ (found : Option Pairs). least_from test found ps) (cond-true _ (Some p.collection) (Some k) less)) ∙ none)
      | inr more ↦ still_found test ps k (sym (ap (λ (found : Option Pairs). least_from test found ps) (cond-false _ (Some p.collection) (Some k) more)) ∙ none)
    ]

-- where nothing is found, the first collection doesn't pass, and nothing is found behind it
first_below : (test : Pairs → Bool) (p : Posting) (ps : List Posting) → least_from test None (p ∷ ps) ≡ None → (test p.collection ≡ false) × (least_from test None ps ≡ None)
first_below test p ps none =
    elim (cases_Bool (test p.collection && true)) [
      | inl above ↦ absurd (still_found test ps p.collection (sym (ap (λ (found : Option Pairs). least_from test found ps) (cond-true _ (Some p.collection) None above)) ∙ none))
      | inr below ↦ (
        and_left (test p.collection) below,
        sym (ap (λ (found : Option Pairs). least_from test found ps) (cond-false _ (Some p.collection) None below)) ∙ none,
      )
    ]
  where
    and_left : (b : Bool) → (b && true) ≡ false → b ≡ false
    and_left true both = both
    and_left false both = refl

-- a collection passes the test, or nothing is posted to it
below_or_untouched : (test : Pairs → Bool) (k : Pairs) (ps : List Posting) → least_from test None ps ≡ None → (test k ≡ false) ⊎ ((minted ps k ≡ 0) × (burnt ps k ≡ 0))
below_or_untouched test k [] none = inr (refl, refl)
below_or_untouched test k (p ∷ ps) none =
    let first = first_below test p ps none in
    elim (cases_Bool (same_collection p.collection k)) [
      | inl same ↦ inl (subst (λ (j : Pairs). test j ≡ false) ((collection_Decides p.collection k).0 same) first.0)
      | inr other ↦ behind (below_or_untouched test k ps first.1) (cond-false _ p.paid 0 other) (cond-false _ p.taken 0 other)
    ]
  where
    behind : (test k ≡ false) ⊎ ((minted ps k ≡ 0) × (burnt ps k ≡ 0)) → paid_to k p ≡ 0 → taken_from k p ≡ 0 → (test k ≡ false) ⊎ ((minted (p ∷ ps) k ≡ 0) × (burnt (p ∷ ps) k ≡ 0))
    behind (inl below) paid taken = inl below
    behind (inr none) paid taken = inr (
      omega (arith, sum_by-cons (paid_to k) p ps, paid, none.0),
      omega (arith, sum_by-cons (taken_from k) p ps, taken, none.1),
    )

map-none : (f : Pairs → ℕ) (o : Option Pairs) → option_map f o ≡ None → o ≡ None
map-none f None none = refl
map-none f (Some x) none = cc

-- where no supply is found above its limit, none is
pub within_limit : (supplied : Pairs → ℕ) (ps : List Posting) → oversupplied supplied ps ≡ None → ((k : Pairs) → supplied k ≤ MAX_AMOUNT) → (k : Pairs) → supplied k + minted ps k ≤ MAX_AMOUNT + burnt ps k
within_limit supplied ps none within k =
    elim (below_or_untouched (is_above_supply supplied ps) k ps (map-none supplied (least_from (is_above_supply supplied ps) None ps) none)) [
      | inl below ↦ grind (arith, nat_tests, below)
      | inr untouched ↦ omega (arith, untouched.0, untouched.1, within k)
    ]
