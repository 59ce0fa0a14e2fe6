-- What contracts see of a reader of lines, and what its calls take.
use Rattle.std.specs.Prelude.{◌≡◌, ℕ, ◌+◌, ◌-◌, List, ◌∷◌, ◌++◌, length}
use Rattle.line_link.specs.declared.line_reader.Line.{Line}
use Rattle.line_link.specs.declared.line_reader.Line.TheVariants.{Whole, TooLong}
use Rattle.line_link.specs.declared.line_reader.TheConstants.{NEWLINE}
use Rattle.line_link.specs.Lines.{Heard, kept, too_long, heard_of, newlines}

-- the bytes that were taken and not told, how many were taken in all, how many may be, and the last line's text
pub record LineReaderView : Type 0 where
  pub pending : List ℕ
  pub taken : ℕ
  pub limit : ℕ
  pub text : List ℕ

-- how many bytes may still be told at the most
abbrev pub untold : LineReaderView → ℕ
untold r = (r.limit - r.taken) + length r.pending

-- what a told line says, with the reader's text
abbrev pub heard : Line → List ℕ → Heard
heard Whole text = kept text
heard TooLong text = too_long

-- a source that had bytes left has some of them left behind those that were taken, which are counted
pub record Takes (count_before count_after : ℕ) (left_before left_after : List ℕ) : Type 0 where
  pub since : List ℕ
  pub bytes : left_before ≡ since ++ left_after
  pub counted : count_after ≡ count_before + length since

-- no line ends in what was pending and what was taken since
abbrev pub TakesNoLine : List ℕ → List ℕ → List ℕ → Type 0
TakesNoLine pending left_before left_after = (since : List ℕ) → left_before ≡ since ++ left_after → newlines (pending ++ since) ≡ 0

-- the line that has begun with more bytes, none of which is a newline
abbrev pub lengthened : Heard → List ℕ → Heard
lengthened (kept line) bytes = heard_of (line ++ bytes)
lengthened too_long bytes = too_long

-- how many bytes a line has at the least
abbrev pub at_least : Heard → ℕ
at_least (kept line) = length line
at_least too_long = 1

-- the line that has begun ends in the pending bytes as this one, and these are pending then
pub record EndsLine (begun : Heard) (pending : List ℕ) (line : Heard) (left : List ℕ) : Type 0 where
  pub part : List ℕ
  pub is_part : newlines part ≡ 0
  pub split : pending ≡ part ++ NEWLINE ∷ left
  pub whole : line ≡ lengthened begun part

-- all pending bytes belong to the line that has begun, which goes on as this one
pub record LengthensLine (begun : Heard) (pending : List ℕ) (line : Heard) : Type 0 where
  pub is_part : newlines pending ≡ 0
  pub longer : line ≡ lengthened begun pending
