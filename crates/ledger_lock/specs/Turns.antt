-- What a turn of a crossing comes to. This project's own.
use Rattle.std.specs.Prelude.{◌≡◌, ℕ, ◌<◌, ◌^◌, ⊤, All, Contains, List, [], ◌∷◌, ◌++◌, Option, Some, None, Result, Ok, Err}
use Rattle.book_propose.specs.declared.terms.MatchTerms.{MatchTerms}
use Rattle.command_words.specs.declared.act.Act.{Act}
use Rattle.command_words.specs.declared.command.Command.{Command}
use Rattle.command_words.specs.declared.refusal.Refusal.{Refusal}
use Rattle.command_words.specs.declared.refusal.Refusal.TheVariants.{Memory}
use Rattle.command_words.specs.declared.reply.Reply.{Reply}
use Rattle.command_words.specs.declared.reply.Reply.TheVariants.{Crossed}
use Rattle.condition_sets.specs.declared.names.TheConstants.{OPERATOR}
use Rattle.settle_core.specs.Crossings.{IsForRoom}
use Rattle.ledger_lock.specs.declared.turned.Turned.{Turned}
use Rattle.ledger_lock.specs.declared.turned.Turned.TheVariants.{Acted, Over, Stopped}

-- the operator's act of a command
abbrev pub operator_act : ℕ → Command → Act
operator_act now command = record { moment = now; account = OPERATOR; command = command }

-- A turn, that would be this one by the rules, over a history, with the history afterwards. Want of memory may stop it at any
-- time.
abbrev pub TurnedBy : Option (Result Command Refusal) → ℕ → List Act → Turned → List Act → Type 0
TurnedBy given now history Acted after = (command : Command) × (given ≡ Some (Ok command)) × (after ≡ history ++ operator_act now command ∷ [])
TurnedBy given now history Over after = (given ≡ None) × (after ≡ history)
TurnedBy given now history (Stopped Memory) after = after ≡ history
TurnedBy given now history (Stopped refusal) after = (given ≡ Some (Err refusal)) × (after ≡ history)

-- a turn is stopped for want of room or of memory alone
abbrev pub StopsForRoom : Turned → Type 0
StopsForRoom (Stopped Memory) = ⊤
StopsForRoom (Stopped refusal) = IsForRoom refusal
StopsForRoom turned = ⊤

-- and so is a crossing: what it tells of its end is that nothing stopped it, or the number of a supply's limit, of that of
-- balances, of a full history, or of want of memory
abbrev pub EndsForRoom : Reply → Type 0
EndsForRoom (Crossed acts lsn more stop) = Contains (0 ∷ 33 ∷ 34 ∷ 35 ∷ 37 ∷ []) stop
EndsForRoom reply = ⊤

-- the orders that are matched have numbers of 32 bits
pub record AreNumbers (terms : MatchTerms) : Type 0 where
  pub taker : terms.taker < 2 ^ 32
  pub makers : All (λ m. m.0 < 2 ^ 32) terms.makers
