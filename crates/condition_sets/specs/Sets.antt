-- Index sets and partitions, as numbers whose bit s says that slot s is in the set.
-- Source: Gnosis Conditional Tokens, developer documentation.
use Rattle.std.specs.Prelude.{◌≡◌, ◌==◌, ℕ, ◌+◌, ◌<◌, ◌^◌, Bool, not, List, length, take, slice_index, Option, fold}
use Rattle.std.specs.List.{list_any}
use Rattle.std.specs.Int.Bits.{bit_and, bit_or}
use Rattle.condition_sets.specs.Places.{first_place}

-- A set of slots is proper for a condition where it has a slot, lacks one, and has none past the last.
-- The set of all slots is 2 ^ slots - 1.
pub record IsProper (slots bits : ℕ) : Type 0 where
  pub nonempty : 0 < bits
  pub not_full : bits + 1 < 2 ^ slots

-- two sets share a slot
abbrev pub meets : ℕ → ℕ → Bool
meets a b = not (bit_and a b == 0)

-- the set at a place shares a slot with one before it
abbrev pub meets_earlier : List ℕ → ℕ → Bool
meets_earlier sets place = list_any (λ earlier. meets earlier (slice_index sets place)) (take place sets)

-- the first place whose set shares a slot with one before it
abbrev pub first_overlap : List ℕ → Option ℕ
first_overlap sets = first_place (meets_earlier sets) (length sets)

-- the slots that are in one of the sets
abbrev pub union_of : List ℕ → ℕ
union_of sets = fold bit_or 0 sets

-- no set shares a slot with those before it together
abbrev pub AreApart : List ℕ → Type 0
AreApart sets = (place : ℕ) → place < length sets → bit_and (union_of (take place sets)) (slice_index sets place) ≡ 0
