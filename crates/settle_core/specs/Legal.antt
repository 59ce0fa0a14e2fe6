-- Legal histories: each act was accepted over the acts before it.
use Rattle.std.specs.Prelude.{◌≡◌, ℕ, true, List, take, slice_get, Some, None}
use Rattle.command_words.specs.declared.act.Act.{Act}
use Rattle.command_words.specs.declared.command.Command.{Command}
use Rattle.command_words.specs.Command.{makes_act, in_ranges, may_be_act}
use Rattle.settle_core.specs.Bounds.{Bounds}
use Rattle.settle_core.specs.Verdict.{question_of, verdict}

-- a command that may be planned: it makes an act, and its members are in their ranges
pub record IsPlannable (command : Command) : Type 0 where
  pub makes_act : makes_act command ≡ true
  pub in_ranges : in_ranges command ≡ true

-- the act's command may be one's, and the verdict on it refuses nothing
pub record IsAccepted (limits : Bounds) (history : List Act) (act : Act) : Type 0 where
  pub may_be_act : may_be_act act.command ≡ true
  pub accepted : verdict (question_of limits history act) ≡ None

-- each act was accepted, at its moment, over the acts before it
abbrev pub IsLegal : Bounds → List Act → Type 0
IsLegal limits history =
    (place : ℕ) (act : Act) → slice_get history place ≡ Some act → IsAccepted limits (take place history) act
