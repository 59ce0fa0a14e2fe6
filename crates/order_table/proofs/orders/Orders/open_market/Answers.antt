use Rattle.std.proofs.Common.{◌≡◌, ◌<◌, false, length, sym, ◌∙◌, ap, subst, arith}
use Rattle.order_table.specs.Orders.{OrdersView, is_market}
use Rattle.order_table.proofs.Counting.{counted-market, has_count-none, has_count-set, has_count-set_other}
use Rattle.order_table.proofs.orders.Orders.open_market.Goals as goal

pub invariant_of-self : goal.invariant_of-self
invariant_of-self c =
    let counts = c.self.inside.counts.items in
    let number = c.from.ensures ∙ c.get.ensures.value in
    let none = subst (λ (v : OrdersView). is_market v c.args.c ≡ false) (sym c.self.view_is) c.requires in
    (c.self.invariant.0, c.self.invariant.1, c.self.invariant.2, rw number (counted-market c.self.inside.orders.items counts c.self.inside.limit c.args.c (has_count-none counts c.args.c none) c.self.invariant.3), c.self.invariant.4)

pub returns-clause-market : goal.returns-clause-market
returns-clause-market c =
    let counts = c.self.inside.counts.items in
    let number = c.from.ensures ∙ c.get.ensures.value in
    let inside : c.args.c < length counts = omega (arith, c.get.ensures.value, c.get.ensures.within, c.self.invariant.1, c.self.inside.counts.ok) in
    rw number (has_count-set counts c.args.c 0 inside)

pub returns-clause-others : goal.returns-clause-others
returns-clause-others c = λ d apart.
    let counts = c.self.inside.counts.items in
    let number = c.from.ensures ∙ c.get.ensures.value in
    rw number (has_count-set_other counts c.args.c d 0 apart) ∙ ap (λ (v : OrdersView). is_market v d) c.self.view_is
