-- What a change may leave of an image where any part of it happened.
use Rattle.std.specs.Prelude.{◌≡◌, ℕ, ◌+◌, ◌-◌, ◌<◌, ◌≤◌, List, ◌++◌, length, take, drop, replicate, get_or, min, max}

-- A write of `count` bytes at a place: the length lies between the old one and the new end, and each byte below the
-- old end and outside the written range is as it was. All other bytes are any.
pub record IsTorn (place count : ℕ) (before after : List ℕ) : Type 0 where
  pub at_least : length before ≤ length after
  pub at_most : length after ≤ max (length before) (place + count)
  pub below : (i : ℕ) → i < place → i < length before → get_or after i 0 ≡ get_or before i 0
  pub above : (i : ℕ) → place + count ≤ i → i < length before → get_or after i 0 ≡ get_or before i 0

-- A cut to a length: the length lies between, and what is there is as it was.
pub record IsCut (len : ℕ) (before after : List ℕ) : Type 0 where
  pub at_least : min len (length before) ≤ length after
  pub front : after ≡ take (length after) before

-- the bytes made at least so long, with bytes 0
abbrev pub grown : ℕ → List ℕ → List ℕ
grown end bytes = bytes ++ replicate (end - length bytes) 0

-- the bytes with others written over them at a place; what lies between the old end and the place reads as 0
abbrev pub overlaid : ℕ → List ℕ → List ℕ → List ℕ
overlaid place written bytes =
    take place (grown (place + length written) bytes) ++ written ++ drop (place + length written) (grown (place + length written) bytes)
