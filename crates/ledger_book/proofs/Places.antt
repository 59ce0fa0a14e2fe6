-- The places of postings, and the amounts of positions by the numbers of their collections.
use Rattle.std.proofs.Common.{◌≡◌, ℕ, ◌+◌, ◌<◌, List, [], ◌∷◌, Bool, true, false, length, get_or, take, Some, refl, sym, ◌∙◌, ap, arith, inl, inr}
use Rattle.std.specs.Option.{is_some, unwrap_or}
use Rattle.std.specs.Prelude.{◌==◌, ◌&&◌, ◌||◌, not, Option}
use Rattle.std.proofs.lemmas.Bool.{cases_Bool, and_parts, and_from, and_right, or_left, or_right, not_from_false, eqb-true}
use Rattle.std.proofs.lemmas.Bool.Decides.{nat_tests}
use Rattle.std.proofs.lemmas.List.Folds.{list_all_more, list_all_at}
use Rattle.collection_keys.specs.Collections.{Pairs}
use Rattle.ledger_book.specs.Ledger.{same_position, Rows, kept, kept_or_none, amount_in, number_in, is_placed, are_placed}
use Rattle.ledger_book.specs.Naming.{has}
use Rattle.ledger_book.specs.declared.posting.Posting.{Posting}
use Rattle.ledger_book.proofs.Numbers.{number_once}
use Rattle.ledger_book.proofs.Positions.{position_Decides}

-- a posting's place is the one under the number of its collection
pub placed_under : (rs : Rows) (ks : List Pairs) (p : Posting) (n : ℕ) → number_in ks p.collection ≡ n → is_some (kept rs p.account n) ≡ true → is_placed rs ks p ≡ true
placed_under rs ks p n at there = or_right (not (has ks p.collection)) (is_some (kept rs p.account (number_in ks p.collection))) (ap (λ i. is_some (kept rs p.account i)) at ∙ there)

-- one whose collection has no number wants none
pub placed_nowhere : (rs : Rows) (ks : List Pairs) (p : Posting) → has ks p.collection ≡ false → is_placed rs ks p ≡ true
placed_nowhere rs ks p absent = or_left (not (has ks p.collection)) (is_some (kept rs p.account (number_in ks p.collection))) (not_from_false (has ks p.collection) absent)

-- one whose collection has a number has its place under it
pub placed_here : (rs : Rows) (ks : List Pairs) (p : Posting) (n : ℕ) → number_in ks p.collection ≡ n → has ks p.collection ≡ true → is_placed rs ks p ≡ true
    → is_some (kept rs p.account n) ≡ true
placed_here rs ks p n at there placed =
    ap (λ i. is_some (kept rs p.account i)) (sym at) ∙ by (has ks p.collection) (is_some (kept rs p.account (number_in ks p.collection))) there placed
  where
    by : (b c : Bool) → b ≡ true → (not b || c) ≡ true → c ≡ true
    by true c is both = both
    by false c is both = cc

placed_more : (rs next : Rows) (ks : List Pairs) (p : Posting) → ((a n : ℕ) → is_some (kept rs a n) ≡ true → is_some (kept next a n) ≡ true)
    → is_placed rs ks p ≡ true → is_placed next ks p ≡ true
placed_more rs next ks p stays placed =
    elim (cases_Bool (has ks p.collection)) [
      | inl there ↦ placed_under next ks p (number_in ks p.collection) refl (stays p.account (number_in ks p.collection) (placed_here rs ks p (number_in ks p.collection) refl there placed))
      | inr absent ↦ placed_nowhere next ks p absent
    ]

-- places that are made stay
pub are_placed-stay : (rs next : Rows) (ks : List Pairs) (ps : List Posting) → ((a n : ℕ) → is_some (kept rs a n) ≡ true → is_some (kept next a n) ≡ true)
    → are_placed rs ks ps ≡ true → are_placed next ks ps ≡ true
are_placed-stay rs next ks [] stays placed = refl
are_placed-stay rs next ks (p ∷ ps) stays placed =
    let parts = and_parts (is_placed rs ks p) (are_placed rs ks ps) placed in
    and_from (is_placed next ks p) (are_placed next ks ps) (placed_more rs next ks p stays parts.0) (are_placed-stay rs next ks ps stays parts.1)

-- one place more
pub placed_next : (rs next : Rows) (ks : List Pairs) (ps : List Posting) (i : ℕ) (p : Posting) → i < length ps → p ≡ get_or ps i p
    → ((a n : ℕ) → is_some (kept rs a n) ≡ true → is_some (kept next a n) ≡ true)
    → are_placed rs ks (take i ps) ≡ true → is_placed next ks p ≡ true → are_placed next ks (take (i + 1) ps) ≡ true
placed_next rs next ks ps i p below is stays before here =
    list_all_more (is_placed next ks) ps i p below
    ∙ and_from (are_placed next ks (take i ps)) (is_placed next ks (get_or ps i p)) (are_placed-stay rs next ks (take i ps) stays before) (ap (is_placed next ks) (sym is) ∙ here)

-- each posting has its place
pub placed_at : (rs : Rows) (ks : List Pairs) (ps : List Posting) (i : ℕ) (p : Posting) → i < length ps → p ≡ get_or ps i p
    → are_placed rs ks ps ≡ true → is_placed rs ks p ≡ true
placed_at rs ks ps i p below is placed =
    elim (cases_Bool (is_placed rs ks (get_or ps i p))) [
      | inl here ↦ ap (is_placed rs ks) is ∙ here
      | inr none ↦ let fails = list_all_at (is_placed rs ks) ps i p below none in cc
    ]

-- the amount under a collection's number is the one that is held of it
pub amount_found : (rs : Rows) (ks : List Pairs) (a : ℕ) (k : Pairs) (n amount : ℕ) → number_in ks k ≡ n → kept rs a n ≡ Some amount → amount_in rs ks a k ≡ amount
amount_found rs ks a k n amount at found = ap (kept_or_none rs a) at ∙ ap (λ (o : Option ℕ). unwrap_or o 0) found

-- where one amount is put in the place of another, no other position changes
pub amount_elsewhere : (rs next : Rows) (ks : List Pairs) (p : Posting) (n : ℕ) → number_in ks p.collection ≡ n → has ks p.collection ≡ true
    → ((b j : ℕ) → ((b == p.account) && (j == n)) ≡ false → kept next b j ≡ kept rs b j)
    → (a : ℕ) (k : Pairs) → same_position (p.account, p.collection) (a, k) ≡ false → amount_in next ks a k ≡ amount_in rs ks a k
amount_elsewhere rs next ks p n at there others a k apart =
    elim (cases_Bool ((a == p.account) && (number_in ks k == n))) [
      | inl here ↦
          let parts = and_parts (a == p.account) (number_in ks k == n) here in
          let same = number_once ks k p.collection there (eqb-true (number_in ks k) n parts.1 ∙ sym at) in
          let tied = (position_Decides (p.account, p.collection) (a, k)).1 (λ i. (sym (eqb-true a p.account parts.0) i, sym same i)) in
          cc
      | inr differ ↦ ap (λ (o : Option ℕ). unwrap_or o 0) (others a (number_in ks k) differ)
    ]

-- a number behind another is another
pub apart_behind : (a b n m : ℕ) → m < n → ((a == b) && (n == m)) ≡ false
apart_behind a b n m more = and_right (a == b) (n == m) (grind (arith, nat_tests, more))
