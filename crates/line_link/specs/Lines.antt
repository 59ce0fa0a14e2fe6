-- The lines of a byte list, however its bytes may come, and what a write that fails leaves.
use Rattle.std.specs.Prelude.{◌≡◌, ◌⊎◌, ◌==◌, ℕ, ◌<◌, List, [], ◌∷◌, ◌++◌, length, map, take, count_by, nat_lt, if◌then◌else◌, Option}
use Rattle.std.specs.Io.KnownBytes.{Appends}
use Rattle.line_link.specs.declared.line_reader.TheConstants.{MAX_LINE, NEWLINE}

-- a byte before the first line of the rest
abbrev pub onto_first : ℕ → List (List ℕ) → List (List ℕ)
onto_first byte [] = (byte ∷ []) ∷ []
onto_first byte (line ∷ lines) = (byte ∷ line) ∷ lines

-- The lines of the bytes: each newline ends one, and a last part without a newline is a line where it isn't empty.
abbrev pub lines : List ℕ → List (List ℕ)
lines [] = []
lines (byte ∷ bytes) = if byte == NEWLINE then [] ∷ lines bytes else onto_first byte (lines bytes)

-- how many newlines there are, and so how many lines end with one
abbrev pub newlines : List ℕ → ℕ
newlines bytes = count_by (λ byte. byte == NEWLINE) bytes

-- what is heard of a line: its bytes, or that it is too long to be kept
pub data Heard : Type 0 where
  kept : List ℕ → Heard
  too_long : Heard

abbrev pub heard_of : List ℕ → Heard
heard_of line = if nat_lt MAX_LINE (length line) then too_long else kept line

-- what is heard of the lines of the bytes
abbrev pub heard_lines : List ℕ → List Heard
heard_lines bytes = map heard_of (lines bytes)

-- This is heard of the first line of the bytes, and this is the rest behind it: the line ends with a newline, or with
-- the bytes where it isn't empty.
pub record IsFirstLine (line : Heard) (bytes rest : List ℕ) : Type 0 where
  pub text : List ℕ
  pub is_heard : line ≡ heard_of text
  pub is_one : newlines text ≡ 0
  pub ends : (bytes ≡ text ++ NEWLINE ∷ rest) ⊎ ((bytes ≡ text) × (rest ≡ []) × (0 < length text))

-- a front of the bytes was appended, short of the whole
abbrev pub AppendsFront : Option (List ℕ) → Option (List ℕ) → List ℕ → Type 0
AppendsFront old new bytes = (n : ℕ) × (n < length bytes) × Appends old new (take n bytes)
