-- Acts that are carried out again, one after another.
use Rattle.std.specs.Prelude.{◌≡◌, ℕ, List, length, take, slice_get, Some, option_map, ⊤}
use Rattle.command_words.specs.Refusal.{code_of}
use Rattle.command_words.specs.declared.act.Act.{Act}
use Rattle.settle_core.specs.Bounds.{Bounds}
use Rattle.settle_core.specs.Legal.{IsLegal}
use Rattle.settle_core.specs.Verdict.{question_of, verdict}
use Rattle.settle_core.specs.declared.replay.ReplayFault.{ReplayFault}
use Rattle.settle_core.specs.declared.replay.ReplayFault.TheVariants.{Illegal, Memory}

-- an act is refused over a history, with this number
abbrev pub IsRefused : Bounds → List Act → Act → ℕ → Type 0
IsRefused limits history act code = option_map code_of (verdict (question_of limits history act)) ≡ Some code

-- an act isn't carried out over a history: it is refused, or memory was wanting
abbrev pub IsStopped : Bounds → List Act → Act → ReplayFault → Type 0
IsStopped limits history act (Illegal lsn code) = (lsn ≡ length history) × IsRefused limits history act code
IsStopped limits history act Memory = ⊤

-- the first of these acts that is refused over those before it has this number
pub record IsFirstRefused (limits : Bounds) (acts : List Act) (lsn code : ℕ) : Type 0 where
  pub act : Act
  pub placed : slice_get acts lsn ≡ Some act
  pub legal : IsLegal limits (take lsn acts)
  pub refused : IsRefused limits (take lsn acts) act code

-- why acts are no history
abbrev pub IsNoHistory : Bounds → List Act → ReplayFault → Type 0
IsNoHistory limits acts (Illegal lsn code) = IsFirstRefused limits acts lsn code
IsNoHistory limits acts Memory = ⊤
