use Rattle.std.proofs.Common.{refl, sym, subst}
use Rattle.command_words.specs.declared.reply.Reply.{Reply}
use Rattle.settle_core.specs.Exchange.{ExchangeView, asked}
use Rattle.settle_core.specs.Reply.{Answered}
use Rattle.ledger_lock.proofs.Answered.{verdict-answered}
use Rattle.ledger_lock.proofs.house.House.answer_reading.Goals as goal

pub returns-in-Err-clause-answered : goal.returns-in-Err-clause-answered
returns-in-Err-clause-answered c = λ now.
    let inside = c.self.inside.exchange in
    let q = asked inside c.args.account c.args.command.now now in
    subst (λ (s : ExchangeView). Answered (asked s c.args.account c.args.command.now now) c.refused.result s.history) c.self.view_is
    (subst (λ (r : Reply). Answered q r inside.history) (sym c.refused.ensures.value) (verdict-answered q c.in-Err.refusal inside.history (sym (c.in-Err.ensures.verdict now)) refl))
