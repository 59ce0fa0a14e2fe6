-- To meet the union of sets is to meet one of them, and the union of proper sets has a slot and none past the last.
use Rattle.std.proofs.Common.{◌≡◌, ◌==◌, ℕ, ◌+◌, ◌<◌, ◌≤◌, ◌^◌, zero, suc, false, not, ◌||◌, List, [], ◌∷◌, length, take, slice_index, Some, None, fold, All, refl, ap, sym, ◌∙◌, arith, add-one, inl, inr}
use Rattle.std.specs.List.{list_any}
use Rattle.std.specs.Int.Bits.{bit_and, bit_or, or_zero_l}
use Rattle.std.proofs.Math.Bool.{or_assoc, or-false}
use Rattle.std.proofs.lemmas.Bool.{cases_lt, eqb-true, eq-eqb, ne_eqb, not-false, not_from_true, not_from_false}
use Rattle.std.proofs.lemmas.List.Elements.{All-head, All-tail}
use Rattle.std.proofs.lemmas.Nat.{le_or_l, or_lt, pow_pos}
use Rattle.std.proofs.lemmas.Nat.Bits.{bit_at_and, bit_at_or, same_from_bits}
use Rattle.condition_sets.specs.Sets.{IsProper, AreApart, meets, meets_earlier, union_of, first_overlap}
use Rattle.condition_sets.specs.Places.{first_place}
use Rattle.condition_sets.proofs.FirstPlaces.{first_place-None, first_place_is_Some}

-- what two sets together share with a third is what either shares with it
and-or : (a b c : ℕ) → bit_and (bit_or a b) c ≡ bit_or (bit_and a c) (bit_and b c)
and-or a b c = same_from_bits _ _ (λ i. simp (bit_at_and, bit_at_or) (omega arith))

-- two sets together have a slot where either has one
has_slot-or : (a b : ℕ) → not (bit_or a b == 0) ≡ (not (a == 0) || not (b == 0))
has_slot-or zero b = refl
has_slot-or (suc a) b =
    let left : (suc a == 0) ≡ false = ne_eqb (suc a) 0 (λ none. omega arith) in
    let both : (bit_or (suc a) b == 0) ≡ false = ne_eqb (bit_or (suc a) b) 0 (λ none. omega (arith, le_or_l (suc a) b)) in
    rw (both, left)

-- two sets together meet a third where either meets it
meets-or : (a b c : ℕ) → meets (bit_or a b) c ≡ (meets a c || meets b c)
meets-or a b c = rw (and-or a b c) (has_slot-or (bit_and a c) (bit_and b c))

meets-fold : (set start : ℕ) (sets : List ℕ) → meets (fold bit_or start sets) set ≡ (meets start set || list_any (λ earlier. meets earlier set) sets)
meets-fold set start [] = sym (or-false (meets start set))
meets-fold set start (x ∷ xs) =
    meets-fold set (bit_or start x) xs
    ∙ ap (λ first. first || list_any (λ earlier. meets earlier set) xs) (meets-or start x set)
    ∙ or_assoc (meets start set) (meets x set) (list_any (λ earlier. meets earlier set) xs)

-- a set meets one before it where it meets the union of those
meets_earlier_is : (sets : List ℕ) (place : ℕ) → meets (union_of (take place sets)) (slice_index sets place) ≡ meets_earlier sets place
meets_earlier_is sets place = meets-fold (slice_index sets place) 0 (take place sets)

-- where no place overlaps, each set is apart from the union of those before it
pub AreApart_from_none : (sets : List ℕ) → first_overlap sets ≡ None → AreApart sets
AreApart_from_none sets none place below =
    let apart : meets (union_of (take place sets)) (slice_index sets place) ≡ false
    = meets_earlier_is sets place ∙ first_place-None (meets_earlier sets) (length sets) none place below in
    eqb-true _ 0 (not-false _ apart)

-- one place more without an overlap
pub none_overlaps_more : (sets : List ℕ) (place : ℕ) → first_place (meets_earlier sets) place ≡ None
    → bit_and (union_of (take place sets)) (slice_index sets place) ≡ 0 → first_place (meets_earlier sets) (place + 1) ≡ None
none_overlaps_more sets place none apart =
    let passes : meets_earlier sets place ≡ false
    = sym (meets_earlier_is sets place) ∙ not_from_true _ (eq-eqb _ 0 apart) in
    rw (add-one, none, passes)

-- the first overlap
pub first_overlap_is : (sets : List ℕ) (place : ℕ) → place < length sets → first_place (meets_earlier sets) place ≡ None
    → (bit_and (union_of (take place sets)) (slice_index sets place) ≡ 0 → ⊥) → first_overlap sets ≡ Some place
first_overlap_is sets place below none shared =
    first_place_is_Some (meets_earlier sets) (length sets) place (record {
      below = below;
      passes = sym (meets_earlier_is sets place) ∙ not_from_false _ (ne_eqb _ 0 shared);
      first = first_place-None (meets_earlier sets) place none;
    })

start_le_fold : (start : ℕ) (sets : List ℕ) → start ≤ fold bit_or start sets
start_le_fold start [] = omega arith
start_le_fold start (x ∷ xs) = omega (arith, le_or_l start x, start_le_fold (bit_or start x) xs)

fold_lt : (slots start : ℕ) (sets : List ℕ) → start < 2 ^ slots → All (IsProper slots) sets → fold bit_or start sets < 2 ^ slots
fold_lt slots start [] below proper = below
fold_lt slots start (x ∷ xs) below proper =
    let head = All-head (IsProper slots) x xs proper in
    let within : x < 2 ^ slots = omega (arith, head.not_full) in
    fold_lt slots (bit_or start x) xs (or_lt slots start x below within) (All-tail (IsProper slots) x xs proper)

union_pos : (slots : ℕ) (sets : List ℕ) → 0 < length sets → All (IsProper slots) sets → 0 < union_of sets
union_pos slots [] some proper = absurd (omega arith)
union_pos slots (x ∷ xs) some proper =
    let head = All-head (IsProper slots) x xs proper in
    omega (arith, head.nonempty, or_zero_l x, start_le_fold (bit_or 0 x) xs)

-- a union that is no proper set is the set of all slots
pub union_is_full : (slots : ℕ) (sets : List ℕ) → 0 < length sets → All (IsProper slots) sets
    → (IsProper slots (union_of sets) → ⊥) → union_of sets + 1 ≡ 2 ^ slots
union_is_full slots sets some proper improper =
    let nonempty = union_pos slots sets some proper in
    let within = fold_lt slots 0 sets (pow_pos slots) proper in
    elim (cases_lt (union_of sets + 1) (2 ^ slots)) [
      | inl not_full ↦ absurd (improper (record { nonempty = nonempty; not_full = not_full }))
      | inr full ↦ omega (arith, within, full)
    ]
