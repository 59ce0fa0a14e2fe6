use Rattle.std.proofs.Common.{List, subst, ap, ◌∙◌, arith}
use Rattle.command_words.specs.declared.act.Act.{Act}
use Rattle.settle_core.specs.Exchange.{ExchangeView}
use Rattle.settle_core.specs.Kept.{AreOrdersOf}
use Rattle.settle_core.specs.Orders.{order_state}
use Rattle.settle_core.proofs.Parts.{unplaced-past}
use Rattle.settle_core.proofs.Staging.{order-found}
use Rattle.settle_core.proofs.exchange.Exchange.+first_unplaced.Goals as goal

pub returns-in-Some : goal.returns-in-Some
returns-in-Some t c =
    let e = c.self.inside in
    let h = c.args.self.now.history in
    let are : AreOrdersOf e.limits e.orders h = subst (λ (acts : List Act). AreOrdersOf e.limits e.orders acts) (ap (λ (s : ExchangeView). s.history) c.self.view_is) c.self.invariant.1 in
    c.first_unplaced.ensures
    ∙ unplaced-past (order_state h) c.args.place c.args.named.now c.first-item.result c.in-Some.field-0 (omega (arith, c.in-len1-up.len_at_least)) c.first-item.is
    (order-found e.limits e.orders h c.first-item.result.0 c.in-Some.field-0 are c.in-Some.ensures.value)
