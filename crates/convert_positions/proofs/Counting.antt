-- As many questions are chosen as the set has bits.
use Rattle.std.proofs.Common.{◌≡◌, ℕ, zero, suc, ◌+◌, ◌/◌, ◌%◌, ◌<◌, ◌≤◌, ◌^◌, List, [], ◌∷◌, length, refl, arith, eq-zero-or-pos, inl, inr}
use Rattle.std.specs.Int.Count.{ones_step}
use Rattle.std.specs.Prelude.{cond, ◌==◌, count_ones}
use Rattle.std.proofs.Math.Nat.{pow-suc}
use Rattle.std.proofs.lemmas.Nat.{ones_le_self, zero_from_ones}
use Rattle.std.proofs.lemmas.Nat.Bits.{bit_at_lowest, bit_at-suc}
use Rattle.convert_positions.specs.Converting.{IsChoice, chosen, chosen_from}

-- the set without its lowest bit, a place lower
lowered : (set place : ℕ) (cs : List ℕ) → chosen_from set (suc place) cs ≡ chosen_from (set / 2) place cs
lowered set place [] = refl
lowered set place (c ∷ cs) = rw (bit_at-suc set place, lowered set (suc place) cs) refl

one_more : (bit c : ℕ) (cs : List ℕ) → bit < 2 → length (cond (bit == 1) (c ∷ cs) cs) ≡ bit + length cs
one_more zero c cs few = omega arith
one_more (suc zero) c cs few = omega arith
one_more (suc (suc bit)) c cs few = absurd (omega arith)

pub length-chosen : (set : ℕ) (cs : List ℕ) → set < 2 ^ length cs → length (chosen set cs) ≡ count_ones set
length-chosen set [] inside = let none : set ≡ 0 = omega arith in rw none (omega (arith, ones_le_self 0))
length-chosen set (c ∷ cs) inside =
    let half : set / 2 < 2 ^ length cs = omega (arith, pow-suc 2 (length cs)) in
    let rest = length-chosen (set / 2) cs half in
    rw (bit_at_lowest set, lowered set 0 cs) (omega (arith, rest, ones_step set, one_more (set % 2) c (chosen_from (set / 2) 0 cs) (omega arith)))

-- some question is chosen
pub chosen-some : (set : ℕ) (cs : List ℕ) → IsChoice (length cs) set → 1 ≤ length (chosen set cs)
chosen-some set cs is =
    elim (eq-zero-or-pos (count_ones set)) [
      | inl none ↦ absurd (omega (arith, is.some, zero_from_ones set none))
      | inr some ↦ omega (arith, some, length-chosen set cs is.inside)
    ]
