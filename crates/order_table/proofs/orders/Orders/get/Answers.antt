use Rattle.std.proofs.Common.{◌≡◌, ◌<◌, true, get_or, length, refl, sym, ◌∙◌, ap, subst}
use Rattle.std.proofs.lemmas.Option.{slice_get_read}
use Rattle.order_table.specs.declared.order.OrderState.{OrderState}
use Rattle.order_table.specs.Orders.{OrdersView, is_market, is_open}
use Rattle.order_table.proofs.Counting.{counted-some, has_count-some}
use Rattle.order_table.proofs.orders.Orders.get.Goals as goal

pub returns-clause-market : goal.returns-clause-market
returns-clause-market c = λ live.
    let orders = c.self.inside.orders.items in
    let counts = c.self.inside.counts.items in
    let x = c.in_ok-order.order.now in
    let is : x ≡ get_or orders c.get.result x = rw c.deref.ensures.value at c.in_ok-order.ensures.lookup.1 in
    let inside : c.get.result < length orders = rw c.deref.ensures.value at c.in_ok-order.ensures.lookup.3.0 in
    let there = slice_get_read orders (length orders) c.get.result x refl inside is in
    let still : is_open x ≡ true = sym (ap (λ (f : OrderState). f.is_open) c.state.ensures.value) ∙ live in
    let same : c.state.result.placed.market ≡ x.placed.market = ap (λ (f : OrderState). f.placed.market) c.state.ensures.value in
    let some = counted-some orders counts c.self.inside.limit c.get.result x there still c.self.invariant.3 in
    subst (λ (v : OrdersView). is_market v c.state.result.placed.market ≡ true) c.self.view_is (rw same (has_count-some counts x.placed.market some))
