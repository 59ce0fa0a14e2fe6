-- What sets of a condition's slots get: sets that are apart get together what their union does, and all slots get all.
use Rattle.std.proofs.Common.{◌≡◌, ℕ, zero, suc, ◌+◌, ◌-◌, ◌<◌, ◌^◌, List, [], ◌∷◌, length, take, fold, slice_index, sum_by, Option, Some, None, refl, sym, ap, ◌∙◌, arith, bit_and, bit_or}
use Rattle.std.specs.Prelude.{min}
use Rattle.std.specs.Int.{bit_at}
use Rattle.std.proofs.lemmas.List.Sums.{sum_by-cons}
use Rattle.std.proofs.lemmas.Nat.Bits.{bit_at_and, bit_at_ones, bit_at_or, bit_at-zero}
use Rattle.condition_sets.specs.Sets.{AreApart, union_of}
use Rattle.coverage_law.specs.Worth.{denominator_of, share_of}
use Rattle.coverage_law.proofs.Weights.{weighted-constant, weighted-one, weighted-same, weighted-sum}

-- of two sets that are apart as many have a slot as of their union
bits-apart : (a b slot : ℕ) → bit_and a b ≡ 0 → bit_at a slot + bit_at b slot ≡ bit_at (bit_or a b) slot
bits-apart a b slot apart =
    let shared : min (bit_at a slot) (bit_at b slot) ≡ 0 = sym (bit_at_and a b slot) ∙ ap (λ n. bit_at n slot) apart ∙ bit_at-zero slot in
    omega (arith, shared, bit_at_or a b slot)

-- such sets get together what their union does
share-or : (o : Option (List ℕ)) (slot a b : ℕ) → bit_and a b ≡ 0 → share_of o slot a + share_of o slot b ≡ share_of o slot (bit_or a b)
share-or None slot a b apart = bits-apart a b slot apart
share-or (Some ns) slot a b apart =
    sym (weighted-sum ns (bit_at a) (bit_at b)) ∙ weighted-same ns (λ s. bit_at a s + bit_at b s) (bit_at (bit_or a b)) (λ s below. bits-apart a b s apart)

-- the empty set gets nothing
share-zero : (o : Option (List ℕ)) (slot : ℕ) → share_of o slot 0 ≡ 0
share-zero None slot = bit_at-zero slot
share-zero (Some ns) slot = weighted-same ns (bit_at 0) (λ s. 0) (λ s below. bit_at-zero s) ∙ weighted-constant ns 0 ∙ omega arith

-- each of the sets shares no slot with a start and those before it
abbrev AreApartFrom : ℕ → List ℕ → Type 0
AreApartFrom start sets = (place : ℕ) → place < length sets → bit_and (fold bit_or start (take place sets)) (slice_index sets place) ≡ 0

-- then they get together what the start with all of them does, beyond what the start gets
share-fold : (o : Option (List ℕ)) (slot start : ℕ) (sets : List ℕ) → AreApartFrom start sets → share_of o slot start + sum_by (share_of o slot) sets ≡ share_of o slot (fold bit_or start sets)
share-fold o slot start [] apart = omega arith
share-fold o slot start (x ∷ xs) apart =
    let here : bit_and start x ≡ 0 = apart zero (omega arith) in
    let rest = share-fold o slot (bit_or start x) xs (λ place inside. apart (suc place) (omega arith)) in
    omega (arith, rest, share-or o slot start x here, sum_by-cons (share_of o slot) x xs)

-- several sets that are apart get together what their union does
pub share-union : (o : Option (List ℕ)) (slot : ℕ) (sets : List ℕ) → AreApart sets → sum_by (share_of o slot) sets ≡ share_of o slot (union_of sets)
share-union o slot sets apart = omega (arith, share-fold o slot 0 sets apart, share-zero o slot)

-- the set of all slots has each slot
full-bit : (slots full slot : ℕ) → full + 1 ≡ 2 ^ slots → slot < slots → bit_at full slot ≡ 1
full-bit slots full slot all below =
    let is : full ≡ 2 ^ slots - 1 = omega arith in
    ap (λ n. bit_at n slot) is ∙ bit_at_ones slots slot below

-- it gets the whole denominator
pub share-full : (o : Option (List ℕ)) (slots full slot : ℕ) → full + 1 ≡ 2 ^ slots → slot < slots → ((ns : List ℕ) → o ≡ Some ns → length ns ≡ slots) → share_of o slot full ≡ denominator_of o
share-full None slots full slot all below each = full-bit slots full slot all below
share-full (Some ns) slots full slot all below each =
    let long : length ns ≡ slots = each ns refl in
    weighted-same ns (bit_at full) (λ s. 1) (λ s inside. full-bit slots full s all (omega arith)) ∙ weighted-one ns
