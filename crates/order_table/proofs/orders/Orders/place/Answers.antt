use Rattle.std.proofs.Common.{◌≡◌, ◌<◌, false, true, length, sym, ◌∙◌, ap, subst, arith}
use Rattle.order_table.specs.Counts.{count_at}
use Rattle.order_table.specs.declared.orders.TheConstants.{MAX_ORDERS}
use Rattle.order_table.specs.Orders.{OrderView, OrdersView, is_market, is_open, open_in}
use Rattle.order_table.proofs.Counting.{counted-push, has_count-within, markets-same}
use Rattle.order_table.proofs.orders.Orders.place.Goals as goal

pub invariant_of-self : goal.invariant_of-self
invariant_of-self c =
    let orders = c.self.inside.orders.items in
    let counts = c.self.inside.counts.items in
    let market = c.args.order.market in
    let made : OrderView = record { placed = c.args.order; filled = 0; ended = false } in
    let is = subst (λ (v : OrdersView). is_market v market ≡ true) (sym c.self.view_is) c.requires.market in
    let below = subst (λ (v : OrdersView). open_in v.orders market < v.limit) (sym c.self.view_is) c.requires.below in
    let few : length orders < MAX_ORDERS = subst (λ (v : OrdersView). length v.orders < MAX_ORDERS) (sym c.self.view_is) c.requires.few in
    let number : c.from.result ≡ market = c.from.ensures ∙ c.get.ensures.value in
    let before : c.open_in-open.result ≡ count_at counts market = c.open_in-open.ensures.value ∙ (ap (λ (v : OrdersView). open_in v.orders market) (sym c.self.view_is) ∙ (c.self.invariant.3 market).count) in
    let live : is_open made ≡ true = subst (λ (y : OrderView). is_open y ≡ true) c.new.ensures.value c.new.ensures.open in (
      omega (arith, c.push_reserved.ensures.len, few, c.self.inside.orders.ok),
      c.self.invariant.1,
      c.self.invariant.2,
      rw (c.push_reserved.ensures.items, c.new.ensures.value, number, before) (counted-push orders counts c.self.inside.limit made live (has_count-within counts market is) below c.self.invariant.3),
      c.self.invariant.4,
    )

pub returns-clause-markets : goal.returns-clause-markets
returns-clause-markets c =
    let counts = c.self.inside.counts.items in
    let market = c.args.order.market in
    let is = subst (λ (v : OrdersView). is_market v market ≡ true) (sym c.self.view_is) c.requires.market in
    let number : c.from.result ≡ market = c.from.ensures ∙ c.get.ensures.value in
    rw number (markets-same counts market _ is ∙ ap (λ (v : OrdersView). v.markets) c.self.view_is)
