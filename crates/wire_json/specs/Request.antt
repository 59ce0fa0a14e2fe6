-- The request that a line is.
use Rattle.std.specs.Prelude.{◌≡◌, ℕ, ◌&&◌, Bool, if◌then◌else◌, List, codes, Option, Some, None, Result, Ok, Err, ⊤}
use Rattle.std.specs.Str.{is_utf8}
use Rattle.serde_json.specs.Data.{Data}
use Rattle.serde_json.specs.Read.{read}
use Rattle.command_words.specs.declared.command.Command.{Command}
use Rattle.command_words.specs.declared.line_fault.LineFault.{LineFault}
use Rattle.command_words.specs.declared.line_fault.LineFault.TheVariants.{NotJson, NotCommand, OutOfRange, Memory}
use Rattle.command_words.specs.Command.{in_ranges}
use Rattle.command_words.specs.Ranges.{is_account}
use Rattle.wire_json.specs.CommandText.{command_in}
use Rattle.wire_json.specs.Kinds.{◌>>=◌, number_at, text_at}
use Rattle.wire_json.specs.declared.request.Request.{Request}

-- a command with the account that asks it
abbrev pub request_by : ℕ → Command → Request
request_by account command = record { account = account; command = command }

-- the request that a JSON value has the form of: each member is there and of its kind
abbrev pub request_in : Data → Option Request
request_in d = do
  name ← text_at (codes "do") d
  account ← number_at (codes "by") d
  command ← command_in name d
  Some (request_by account command)

-- what is read where all kinds are right
abbrev pub of_kind : {X : Type 0} → Option X → Result X LineFault
of_kind None = Err NotCommand
of_kind (Some x) = Ok x

-- what is kept of a value of its kind, where a test says whether it is in its range
abbrev pub in_range : {X : Type 0} → (X → Bool) → X → Result X LineFault
in_range test x = if test x then Ok x else Err OutOfRange

-- first all kinds, then all ranges
abbrev pub kind_then_range : {X : Type 0} → (X → Bool) → Option X → Result X LineFault
kind_then_range test None = Err NotCommand
kind_then_range test (Some x) = in_range test x

abbrev pub is_ranged : Request → Bool
is_ranged r = is_account r.account && in_ranges r.command

abbrev pub request_of : Option Data → Result Request LineFault
request_of None = Err NotJson
request_of (Some d) = kind_then_range is_ranged (request_in d)

-- What a line is: a request, or the fault that makes it none. It is NotJson where it is no JSON text, NotCommand where
-- a member is missing, too many or not of its kind, and OutOfRange where all are of their kinds and one is not in its
-- range.
unfoldable pub request : List ℕ → Result Request LineFault
request line = if is_utf8 line then request_of (read line) else Err NotJson

-- a call gives what is read, or its fault, want of memory aside
abbrev pub ReadsAs : {X : Type 0} → Result X LineFault → Result X LineFault → Type 0
ReadsAs (Ok x) expected = expected ≡ Ok x
ReadsAs (Err Memory) expected = ⊤
ReadsAs (Err fault) expected = expected ≡ Err fault
