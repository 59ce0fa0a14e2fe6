use Rattle.std.proofs.Common.{◌<◌, ◌≤◌, List, sym, subst, arith}
use Rattle.std.specs.Prelude.{min}
use Rattle.command_words.specs.Reply.{IsSound}
use Rattle.command_words.specs.declared.act.Act.{Act}
use Rattle.command_words.specs.declared.reply.Reply.{Reply}
use Rattle.command_words.proofs.Acts.{act-ranges}
use Rattle.settle_core.specs.Kept.{AreOrdersOf, IsKept, questions_made}
use Rattle.settle_core.specs.Legal.{IsAccepted}
use Rattle.settle_core.specs.Exchange.{ExchangeView, AreChangesOf}
use Rattle.settle_core.specs.declared.changes.Changes.{Changes}
use Rattle.settle_core.proofs.KeptLemmas.{kept-admitted, kept-entries, kept-more, kept-names, kept-vault, kept-vault_low}
use Rattle.settle_core.proofs.Posted.{reply-sound}
use Rattle.settle_core.proofs.Reported.{kept-enters}
use Rattle.settle_core.proofs.Trading.{kept-trades, orders-kept}
use Rattle.settle_core.proofs.exchange.Exchange.apply.Goals as goal

pub enter-requires-clause-may : goal.enter-requires-clause-may
enter-requires-clause-may c =
    let planned = subst (λ (s : ExchangeView). IsAccepted s.limits s.history c.args.plan.act) (sym c.self.view_is) c.requires.accepted in
    let accepted = subst (λ (act : Act). IsAccepted c.self.inside.limits c.self.inside.history.items act) (sym c.into_parts-act.ensures.act) planned in
    let room = subst (λ (s : ExchangeView). 0 < s.room) (sym c.self.view_is) c.requires.room in
    let planned_several = subst (λ (s : ExchangeView). questions_made c.args.plan.act.command ≤ s.questions) (sym c.self.view_is) c.requires.questions in
    let several = subst (λ (act : Act). questions_made act.command ≤ min c.self.inside.events.room c.self.inside.conditions.room) (sym c.into_parts-act.ensures.act) planned_several in
    kept-enters c.self.inside.limits c.self.inside.events c.self.inside.conditions c.self.inside.ledger c.self.inside.history.items c.into_parts-act.result.0 c.self.invariant.0 accepted (omega (arith, room)) several

pub trade-requires-clause-may : goal.trade-requires-clause-may
trade-requires-clause-may c =
    let planned = subst (λ (s : ExchangeView). IsAccepted s.limits s.history c.args.plan.act) (sym c.self.view_is) c.requires.accepted in
    let accepted = subst (λ (act : Act). IsAccepted c.self.inside.limits c.self.inside.history.items act) (sym c.into_parts-act.ensures.act) planned in
    let room = subst (λ (s : ExchangeView). 0 < s.room) (sym c.self.view_is) c.requires.room in
    kept-trades c.self.inside.limits c.self.inside.orders c.self.inside.history.items c.into_parts-act.result.0 c.self.invariant.1 c.self.invariant.0.bounded accepted (omega (arith, room))

pub commit-requires-clause-admitted : goal.commit-requires-clause-admitted
commit-requires-clause-admitted c =
    let planned = subst (λ (s : ExchangeView). IsAccepted s.limits s.history c.args.plan.act) (sym c.self.view_is) c.requires.accepted in
    let are = subst (λ (s : ExchangeView). AreChangesOf s.history c.args.plan.act.account c.args.plan.act.command c.args.plan.changes) (sym c.self.view_is) c.requires.changes in
    rw c.into_parts-act.ensures.changes (kept-admitted c.self.inside.limits c.self.inside.events c.self.inside.conditions c.self.inside.ledger c.self.inside.history.items c.args.plan.act c.args.plan.changes c.self.invariant.0 planned are)

pub commit-requires-clause-vault_low : goal.commit-requires-clause-vault_low
commit-requires-clause-vault_low c =
    let planned = subst (λ (s : ExchangeView). IsAccepted s.limits s.history c.args.plan.act) (sym c.self.view_is) c.requires.accepted in
    let are = subst (λ (s : ExchangeView). AreChangesOf s.history c.args.plan.act.account c.args.plan.act.command c.args.plan.changes) (sym c.self.view_is) c.requires.changes in
    rw c.into_parts-act.ensures.changes (kept-vault_low c.self.inside.limits c.self.inside.events c.self.inside.conditions c.self.inside.ledger c.self.inside.history.items c.args.plan.act c.args.plan.changes c.self.invariant.0 planned are)

pub commit-requires-clause-vault_high : goal.commit-requires-clause-vault_high
commit-requires-clause-vault_high c =
    let planned = subst (λ (s : ExchangeView). IsAccepted s.limits s.history c.args.plan.act) (sym c.self.view_is) c.requires.accepted in
    let are = subst (λ (s : ExchangeView). AreChangesOf s.history c.args.plan.act.account c.args.plan.act.command c.args.plan.changes) (sym c.self.view_is) c.requires.changes in
    rw c.into_parts-act.ensures.changes (kept-vault c.self.inside.limits c.self.inside.events c.self.inside.conditions c.self.inside.ledger c.self.inside.history.items c.args.plan.act c.args.plan.changes c.self.invariant.0 planned are)

pub commit-requires-clause-entries : goal.commit-requires-clause-entries
commit-requires-clause-entries c =
    let planned = subst (λ (s : ExchangeView). IsAccepted s.limits s.history c.args.plan.act) (sym c.self.view_is) c.requires.accepted in
    let are = subst (λ (s : ExchangeView). AreChangesOf s.history c.args.plan.act.account c.args.plan.act.command c.args.plan.changes) (sym c.self.view_is) c.requires.changes in
    rw c.into_parts-act.ensures.changes (kept-entries c.self.inside.limits c.self.inside.events c.self.inside.conditions c.self.inside.ledger c.self.inside.history.items c.args.plan.act c.args.plan.changes c.self.invariant.0 planned are)

pub commit-requires-clause-few : goal.commit-requires-clause-few
commit-requires-clause-few c =
    let planned = subst (λ (s : ExchangeView). IsAccepted s.limits s.history c.args.plan.act) (sym c.self.view_is) c.requires.accepted in
    let are = subst (λ (s : ExchangeView). AreChangesOf s.history c.args.plan.act.account c.args.plan.act.command c.args.plan.changes) (sym c.self.view_is) c.requires.changes in
    rw c.into_parts-act.ensures.changes (kept-names c.self.inside.limits c.self.inside.events c.self.inside.conditions c.self.inside.ledger c.self.inside.history.items c.args.plan.act c.args.plan.changes c.self.invariant.0 planned are)

pub returns-clause-sound : goal.returns-clause-sound
returns-clause-sound c =
    let planned = subst (λ (s : ExchangeView). IsAccepted s.limits s.history c.args.plan.act) (sym c.self.view_is) c.requires.accepted in
    let are = subst (λ (s : ExchangeView). AreChangesOf s.history c.args.plan.act.account c.args.plan.act.command c.args.plan.changes) (sym c.self.view_is) c.requires.changes in
    let kept = c.self.invariant.0 in
    let sound = reply-sound c.self.inside.history.items c.args.plan.act.account c.args.plan.act.command (act-ranges c.args.plan.act.command planned.may_be_act) (omega (arith, kept.within, kept.bounded)) in
    let there = subst (λ (reply : Reply). IsSound reply) (sym are.reply) sound in
    subst (λ (changes : Changes). IsSound changes.reply) (sym c.into_parts-act.ensures.changes) there

pub invariant_of-self : goal.invariant_of-self
invariant_of-self c =
    let planned = subst (λ (s : ExchangeView). IsAccepted s.limits s.history c.args.plan.act) (sym c.self.view_is) c.requires.accepted in
    let accepted = subst (λ (act : Act). IsAccepted c.self.inside.limits c.self.inside.history.items act) (sym c.into_parts-act.ensures.act) planned in
    let are_planned = subst (λ (s : ExchangeView). AreChangesOf s.history c.args.plan.act.account c.args.plan.act.command c.args.plan.changes) (sym c.self.view_is) c.requires.changes in
    let are_act = subst (λ (act : Act). AreChangesOf c.self.inside.history.items act.account act.command c.args.plan.changes) (sym c.into_parts-act.ensures.act) are_planned in
    let are = subst (λ (changes : Changes). AreChangesOf c.self.inside.history.items c.into_parts-act.result.0.account c.into_parts-act.result.0.command changes) (sym c.into_parts-act.ensures.changes) are_act in
    let kept = c.self.invariant.0 in
    let more = kept-more c.self.inside.limits c.self.inside.events c.enter.new.events c.self.inside.conditions c.enter.new.conditions c.self.inside.ledger c.commit.new.self c.self.inside.history.items c.into_parts-act.result.0 c.into_parts-act.result.1 kept accepted are c.enter.ensures.facts c.enter.ensures.numerators c.enter.ensures.events c.enter.ensures.limit c.enter.ensures.events_limit c.commit.ensures.balances c.commit.ensures.supplies c.commit.ensures.vault c.commit.ensures.names c.commit.ensures.limit in
    let traded = orders-kept c.self.inside.limits c.self.inside.orders c.trade.new.orders c.self.inside.history.items c.into_parts-act.result.0 kept.legal accepted c.self.invariant.1 c.trade.ensures.orders c.trade.ensures.markets c.trade.ensures.nonces c.trade.ensures.limit in (
      subst (λ (acts : List Act). IsKept c.self.inside.limits c.enter.new.events c.enter.new.conditions c.commit.new.self acts) (sym c.push_reserved.ensures.items) more,
      subst (λ (acts : List Act). AreOrdersOf c.self.inside.limits c.trade.new.orders acts) (sym c.push_reserved.ensures.items) traded,
    )
