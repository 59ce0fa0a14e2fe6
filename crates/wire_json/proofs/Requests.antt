-- What a line is, by what reading its JSON gave.
use Rattle.std.proofs.Common.{◌≡◌, ℕ, List, Some, None, Ok, Err, true, refl, ap, inl, inr}
use Rattle.std.specs.Prelude.{IsUtf8}
use Rattle.std.specs.Str.{is_utf8}
use Rattle.std.proofs.lemmas.Bool.{cases_Bool}
use Rattle.std.proofs.lemmas.Str.{IsUtf8-from_is_utf8, is_utf8-from_IsUtf8}
use Rattle.serde_json.specs.Data.{Data}
use Rattle.serde_json.specs.Read.{read}
use Rattle.command_words.specs.declared.command.Command.{Command}
use Rattle.command_words.specs.declared.line_fault.LineFault.TheVariants.{NotJson}
use Rattle.command_words.specs.Command.{in_ranges}
use Rattle.command_words.specs.Ranges.{is_account}
use Rattle.wire_json.specs.Request.{request, request_by, request_in, request_of, is_ranged, in_range, kind_then_range}
use Rattle.wire_json.proofs.Rows.{range-ok, kept-ranges}

-- a line that is JSON is by what its value is
pub request-read : (line : List ℕ) (d : Data) → IsUtf8 line → read line ≡ Some d → request line ≡ kind_then_range is_ranged (request_in d)
unfolding request
request-read line d utf8 reads = rw (is_utf8-from_IsUtf8 line utf8) (ap request_of reads)

-- a line that isn't UTF-8, or that the reader refuses, is no JSON
pub request-no_json : (line : List ℕ) → (IsUtf8 line → read line ≡ None) → request line ≡ Err NotJson
unfolding request
request-no_json line refused =
    elim (cases_Bool (is_utf8 line)) [
      | inl yes_utf8 ↦ rw yes_utf8 (ap request_of (refused (IsUtf8-from_is_utf8 line yes_utf8)))
      | inr no_utf8 ↦ rw no_utf8 refl
    ]

-- an account and a command that are each in its range are a request in its ranges
pub asked-ok : (number account : ℕ) (command : Command) → in_range is_account number ≡ Ok account → in_ranges command ≡ true → in_range is_ranged (request_by number command) ≡ Ok (request_by account command)
asked-ok number account command kept fits =
    let same : number ≡ account = range-ok is_account number account kept in
    let one : is_account account ≡ true = kept-ranges is_account (Some number) account kept in
    rw (same, one, fits) refl
