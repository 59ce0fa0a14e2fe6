-- The numbers of collections.
use Rattle.std.proofs.Common.{◌≡◌, ℕ, ◌<◌, ◌≤◌, ◌⊎◌, List, [], ◌∷◌, Bool, true, false, length, take, zero, suc, Some, None, refl, sym, ◌∙◌, ap, arith, inl, inr}
use Rattle.std.specs.List.{position, position_or_len}
use Rattle.std.specs.Map.{keys_of}
use Rattle.std.specs.Prelude.{◌||◌, cond, nat_lt}
use Rattle.std.proofs.Math.Numerals.{one-add}
use Rattle.std.proofs.lemmas.Bool.{cases_Bool}
use Rattle.std.proofs.lemmas.Bool.Decides.{nat_tests}
use Rattle.std.proofs.lemmas.List.Recursion.{is_position_or_len}
use Rattle.std.proofs.lemmas.Option.{cond_some}
use Rattle.collection_keys.specs.Collections.{Pairs}
use Rattle.collection_keys.specs.Comparing.{same_collection}
use Rattle.ledger_book.specs.Ledger.{number_in}
use Rattle.ledger_book.specs.Naming.{has}
use Rattle.ledger_book.proofs.Positions.{collection_Decides}

-- a collection has a place among these exactly where its number is less than how many there are
has_number : (ks : List Pairs) (k : Pairs) → number_in ks k < length ks → has ks k ≡ true
has_number [] k less = absurd (omega (arith, less))
has_number (j ∷ js) k less =
    elim (cases_Bool (same_collection k j)) [
      | inl here ↦ ap (λ b. b || has js k) here
      | inr differ ↦
          let at = ap (λ b. cond b 0 (suc (number_in js k))) differ in
          ap (λ b. b || has js k) differ ∙ has_number js k (omega (arith, at, less))
    ]

no_number : (ks : List Pairs) (k : Pairs) → length ks ≤ number_in ks k → has ks k ≡ false
no_number [] k past = refl
no_number (j ∷ js) k past =
    elim (cases_Bool (same_collection k j)) [
      | inl here ↦
          let at = ap (λ b. cond b 0 (suc (number_in js k))) here in
          absurd (omega (arith, at, past))
      | inr differ ↦
          let at = ap (λ b. cond b 0 (suc (number_in js k))) differ in
          ap (λ b. b || has js k) differ ∙ no_number js k (omega (arith, at, past))
    ]

number_is : (ks : List Pairs) (k : Pairs) → number_in ks k ≡ position_or_len (same_collection k) ks
number_is ks k =
    is_position_or_len (λ (js : List Pairs). number_in js k) (same_collection k) refl (λ j js. ap (λ n. cond (same_collection k j) 0 n) (sym (one-add (number_in js k)))) ks

none_past : (b : Bool) (n : ℕ) → cond b (Some n) None ≡ None → b ≡ false
none_past true n none = cc
none_past false n none = refl

-- the place at which a collection is found is its number
pub number_found : (ks : List Pairs) (k : Pairs) (n : ℕ) → position (same_collection k) ks ≡ Some n → (number_in ks k ≡ n) × (has ks k ≡ true) × (n < length ks)
number_found ks k n found =
    let at = cond_some (nat_lt (position_or_len (same_collection k) ks) (length ks)) (position_or_len (same_collection k) ks) n found in
    let less : position_or_len (same_collection k) ks < length ks = grind (arith, nat_tests, at.0) in
    let is = number_is ks k in
    (is ∙ at.1, has_number ks k (omega (arith, is, less)), omega (arith, at.1, less))

-- one that isn't found has the next number
pub number_none : (ks : List Pairs) (k : Pairs) → position (same_collection k) ks ≡ None → length ks ≤ number_in ks k × has ks k ≡ false
number_none ks k found =
    let none = none_past (nat_lt (position_or_len (same_collection k) ks) (length ks)) (position_or_len (same_collection k) ks) found in
    let is = number_is ks k in
    let past : length ks ≤ number_in ks k = grind (arith, nat_tests, none, is) in
    (past, no_number ks k past)

-- a number is of one collection
pub number_once : (ks : List Pairs) (j k : Pairs) → has ks k ≡ true → number_in ks j ≡ number_in ks k → j ≡ k
number_once [] j k there same = cc
number_once (i ∷ is) j k there same =
    elim (cases_Bool (same_collection k i)) [
      | inl first ↦
          elim (cases_Bool (same_collection j i)) [
            | inl both ↦ (collection_Decides j i).0 both ∙ sym ((collection_Decides k i).0 first)
            | inr apart ↦
                let later = ap (λ b. cond b 0 (suc (number_in is j))) apart in
                let here = ap (λ b. cond b 0 (suc (number_in is k))) first in
                absurd (omega (arith, later, here, same))
          ]
      | inr differ ↦
          let behind : has is k ≡ true = sym (ap (λ b. b || has is k) differ) ∙ there in
          let here = ap (λ b. cond b 0 (suc (number_in is k))) differ in
          elim (cases_Bool (same_collection j i)) [
            | inl both ↦
                let first = ap (λ b. cond b 0 (suc (number_in is j))) both in
                absurd (omega (arith, first, here, same))
            | inr apart ↦
                let later = ap (λ b. cond b 0 (suc (number_in is j))) apart in
                number_once is j k behind (omega (arith, later, here, same))
          ]
    ]

-- a collection's number among the first is its own, or the next one where it comes behind them
pub number_front : (m : ℕ) (es : List (Pairs × ℕ)) (k : Pairs) → m ≤ length es
    → (number_in (keys_of (take m es)) k ≡ number_in (keys_of es) k) ⊎ ((m ≤ number_in (keys_of es) k) × (number_in (keys_of (take m es)) k ≡ m))
number_front zero es k fits = inr (omega arith, refl)
number_front (suc m) [] k fits = absurd (omega (arith, fits))
number_front (suc m) (e ∷ es) k fits =
    by (same_collection k e.0) (number_in (keys_of (take m es)) k) (number_in (keys_of es) k) (number_front m es k (omega (arith, fits)))
  where
    by : (b : Bool) (x y : ℕ) → (x ≡ y) ⊎ ((m ≤ y) × (x ≡ m)) → (cond b 0 (suc x) ≡ cond b 0 (suc y)) ⊎ ((suc m ≤ cond b 0 (suc y)) × (cond b 0 (suc x) ≡ suc m))
    by true x y rest = inl refl
    by false x y (inl same) = inl (ap suc same)
    by false x y (inr (more, at)) = inr (omega (arith, more), ap suc at)
