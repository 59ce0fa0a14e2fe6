-- What contracts see of an exchange.
use Rattle.std.specs.Prelude.{◌≡◌, ℕ, ◌<◌, ◌≤◌, List, Option, Some, None, ℤ, pos, ◌-ℤ◌}
use Rattle.command_words.specs.declared.command.Command.{Command}
use Rattle.command_words.specs.declared.command.Command.TheVariants.{Report, Answer}
use Rattle.command_words.specs.declared.act.Act.{Act}
use Rattle.settle_core.specs.Book.{answer_of, book, postings_of}
use Rattle.settle_core.specs.Bounds.{Bounds}
use Rattle.settle_core.specs.declared.changes.Changes.{Changes}
use Rattle.settle_core.specs.Kept.{questions_made}
use Rattle.settle_core.specs.Legal.{IsAccepted}
use Rattle.settle_core.specs.Plan.{PlanView}
use Rattle.settle_core.specs.Postings.{balance, deposit_of, withdrawal_of}
use Rattle.settle_core.specs.Reply.{accepted_reply}
use Rattle.ledger_book.specs.Ledger.{LedgerView, IsReady}
use Rattle.ledger_book.specs.Postings.{IsFunded}
use Rattle.settle_core.specs.Refusals.{Question}

-- its limits, its history, for how many acts more and for how many questions of one event more it has room without taking
-- memory, and its ledger, which has room for changes where it is ready for them
pub record ExchangeView : Type 0 where
  pub limits : Bounds
  pub history : List Act
  pub room : ℕ
  pub questions : ℕ
  pub ledger : LedgerView

-- a command of an account at a moment, asked of the exchange
abbrev pub asked : ExchangeView → ℕ → Command → ℕ → Question
asked state account command moment =
    record { limits = state.limits; history = state.history; account = account; command = command; moment = moment }

-- the same exchange, whatever it has room for
pub record IsSame (old new : ExchangeView) : Type 0 where
  pub limits : new.limits ≡ old.limits
  pub history : new.history ≡ old.history

-- what a command does to the vault
abbrev pub vault_change : Command → ℤ
vault_change command = pos (deposit_of command) -ℤ pos (withdrawal_of command)

-- the numerators that a command reports or answers, where it does
abbrev pub numerators_of : Command → Option (List ℕ)
numerators_of (Report condition payouts) = Some payouts
numerators_of (Answer event question won) = Some (answer_of won)
numerators_of command = None

-- the changes are those of a command of an account over a history, what they take is there, and the reply is the command's
pub record AreChangesOf (history : List Act) (account : ℕ) (command : Command) (changes : Changes) : Type 0 where
  pub postings : changes.staged.postings ≡ postings_of (book history) account command
  pub vault : changes.staged.vault ≡ vault_change command
  pub funded : IsFunded (balance history) changes.staged.postings
  pub numerators : changes.numerators ≡ numerators_of command
  pub reply : changes.reply ≡ accepted_reply history account command

-- the plan is of an accepted command of the present history, with its changes, and there is room for it
pub record IsPlanFor (state : ExchangeView) (plan : PlanView) : Type 0 where
  pub accepted : IsAccepted state.limits state.history plan.act
  pub changes : AreChangesOf state.history plan.act.account plan.act.command plan.changes
  pub room : 0 < state.room
  pub questions : questions_made plan.act.command ≤ state.questions
  pub ready : IsReady state.ledger plan.changes.staged.postings
