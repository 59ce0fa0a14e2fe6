use Rattle.std.proofs.Common.{refl, sym, ◌∙◌, subst}
use Rattle.command_words.specs.declared.command.Command.TheVariants.{Cross}
use Rattle.command_words.specs.declared.reply.Reply.{Reply}
use Rattle.settle_core.specs.Exchange.{ExchangeView, asked}
use Rattle.settle_core.specs.Reply.{Answered}
use Rattle.ledger_lock.proofs.Answered.{verdict-answered}
use Rattle.ledger_lock.proofs.house.House.answer_crossing.Goals as goal

pub returns-in-Some-clause-answered : goal.returns-in-Some-clause-answered
returns-in-Some-clause-answered c =
    let inside = c.self.inside.exchange in
    let q = asked inside c.args.account (Cross c.args.market) c.args.now in
    subst (λ (s : ExchangeView). Answered (asked s c.args.account (Cross c.args.market) c.args.now) c.refused.result s.history) c.self.view_is
    (subst (λ (r : Reply). Answered q r inside.history) (sym c.refused.ensures.value) (verdict-answered q c.in-Some.refusal inside.history (sym (c.refusal_of_cross.ensures c.args.now) ∙ c.in-Some.is) refl))
