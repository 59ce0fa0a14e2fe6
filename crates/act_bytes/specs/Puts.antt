-- Bytes that are put at a place of a piece.
use Rattle.std.specs.Prelude.{◌≡◌, ℕ, ◌+◌, List, ◌++◌, length, take}

-- the bytes stand at a place of the piece now, up to the end, and what stood before them is as it was
pub record Puts (old : List ℕ) (at : ℕ) (bytes new : List ℕ) (end : ℕ) : Type 0 where
  pub front : take end new ≡ take at old ++ bytes
  pub place : end ≡ at + length bytes
