use Rattle.std.specs.Prelude.{Result, Ok, Err, IfOk}
use Rattle.command_words.specs.declared.refusal.Refusal.{Refusal}
use Rattle.settle_core.specs.Exchange.{asked}
use Rattle.settle_core.specs.Legal.{IsAccepted, IsPlannable}
use Rattle.settle_core.specs.Refusals.{Question}
use Rattle.settle_core.specs.Reply.{act_of}
use Rattle.settle_core.specs.Verdict.{verdict, AnsweredBy}
use Rattle.settle_core.specs.declared.changes.Changes.{Changes}
use Rattle.settle_core.proofs.Verdicts.{accepted-may}
use Rattle.settle_core.proofs.exchange.Exchange.accepted_changes.Goals as goal

-- a command on which the verdict is none is an accepted act
accepted : (q : Question) (result : Result Changes Refusal) → IsPlannable q.command → AnsweredBy (verdict q) result → IfOk result (λ _. IsAccepted q.limits q.history (act_of q))
accepted q (Ok changes) plannable none = record { may_be_act = accepted-may q none plannable; accepted = none }
accepted q (Err refusal) plannable by = tt

pub returns-clause-accepted : goal.returns-clause-accepted
returns-clause-accepted c = accepted (asked c.args.self.now c.args.account c.args.command.now c.args.now) c.changes_of.result c.requires c.changes_of.ensures.verdict
