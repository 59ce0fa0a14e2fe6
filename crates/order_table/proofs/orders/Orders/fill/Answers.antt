use Rattle.std.proofs.Common.{◌≡◌, ◌-◌, Some, false, true, sym, ◌∙◌, ap, subst}
use Rattle.std.specs.Prelude.{MatchOption, slice_set}
use Rattle.order_table.specs.Counts.{count_at}
use Rattle.order_table.specs.Orders.{MayFill, OrderView, OrdersView, after_fill, is_open, order_at}
use Rattle.order_table.proofs.Counting.{counted-close, counted-read, counted-some, counted-still, has_count-some, markets-same, order-changed, order-there}
use Rattle.order_table.proofs.orders.Orders.fill.Goals as goal

pub close_one-requires : goal.close_one-requires
close_one-requires c =
    let orders = c.self.inside.orders.items in
    let counts = c.self.inside.counts.items in
    let x = c.index_mut-order.result.now in
    let number : c.get.result ≡ c.args.o = c.get.ensures in
    let asked = subst (λ (v : OrdersView). MatchOption (order_at v.orders c.args.o) ⊥ (λ order. MayFill order c.args.amount)) (sym c.self.view_is) c.requires in
    let here = order-there (λ order. MayFill order c.args.amount) orders c.args.o x (rw number at c.index_mut-order.ensures.value) asked in
    let some = counted-some orders counts c.self.inside.limit c.args.o x here.0 here.1.still_open c.self.invariant.3 in
    let market : c.from.result ≡ x.placed.market = c.from.ensures ∙ (c.get-then-not-is_open.ensures.value ∙ (c.market-market.ensures ∙ ap (λ (y : OrderView). y.placed.market) c.fill.ensures)) in
    let read = counted-read orders counts c.self.inside.limit c.args.o x c.from.result c.index_mut.result.now here.0 here.1.still_open c.self.invariant.3 market c.index_mut.ensures.value in
    rw read some

pub invariant_of-self : goal.invariant_of-self
invariant_of-self c =
    let orders = c.self.inside.orders.items in
    let counts = c.self.inside.counts.items in
    let x = c.index_mut-order.result.now in
    let number : c.get.result ≡ c.args.o = c.get.ensures in
    let asked = subst (λ (v : OrdersView). MatchOption (order_at v.orders c.args.o) ⊥ (λ order. MayFill order c.args.amount)) (sym c.self.view_is) c.requires in
    let here = order-there (λ order. MayFill order c.args.amount) orders c.args.o x (rw number at c.index_mut-order.ensures.value) asked in
    let market : c.from.result ≡ x.placed.market = c.from.ensures ∙ (c.get-then-not-is_open.ensures.value ∙ (c.market-market.ensures ∙ ap (λ (y : OrderView). y.placed.market) c.fill.ensures)) in
    let read = counted-read orders counts c.self.inside.limit c.args.o x c.from.result c.index_mut.result.now here.0 here.1.still_open c.self.invariant.3 market c.index_mut.ensures.value in
    let fewer : c.close_one.new.count ≡ Some (count_at counts x.placed.market - 1) = rw read at c.close_one.ensures in
    let closed : is_open c.fill.new.self ≡ false = sym c.is_open.ensures ∙ c.if-not-is_open.true in
    (c.self.invariant.0, c.self.invariant.1, c.self.invariant.2, rw (number, market, fewer) (counted-close orders counts c.self.inside.limit c.args.o x c.fill.new.self here.0 here.1.still_open closed c.self.invariant.3), c.self.invariant.4)

pub invariant_of-self-else-not-is_open : goal.invariant_of-self-else-not-is_open
invariant_of-self-else-not-is_open c =
    let orders = c.self.inside.orders.items in
    let counts = c.self.inside.counts.items in
    let x = c.index_mut-order.result.now in
    let number : c.get.result ≡ c.args.o = c.get.ensures in
    let asked = subst (λ (v : OrdersView). MatchOption (order_at v.orders c.args.o) ⊥ (λ order. MayFill order c.args.amount)) (sym c.self.view_is) c.requires in
    let here = order-there (λ order. MayFill order c.args.amount) orders c.args.o x (rw number at c.index_mut-order.ensures.value) asked in
    let still : is_open c.fill.new.self ≡ true = sym c.is_open.ensures ∙ c.if-not-is_open.false in
    let same = ap (λ (y : OrderView). y.placed) c.fill.ensures in
    (c.self.invariant.0, c.self.invariant.1, c.self.invariant.2, rw number (counted-still orders counts c.self.inside.limit c.args.o x c.fill.new.self here.0 here.1.still_open still same c.self.invariant.3), c.self.invariant.4)

pub returns-then-not-is_open-clause-orders : goal.returns-then-not-is_open-clause-orders
returns-then-not-is_open-clause-orders c =
    let orders = c.self.inside.orders.items in
    let x = c.index_mut-order.result.now in
    let number : c.get.result ≡ c.args.o = c.get.ensures in
    let asked = subst (λ (v : OrdersView). MatchOption (order_at v.orders c.args.o) ⊥ (λ order. MayFill order c.args.amount)) (sym c.self.view_is) c.requires in
    let here = order-there (λ order. MayFill order c.args.amount) orders c.args.o x (rw number at c.index_mut-order.ensures.value) asked in
    subst (λ (v : OrdersView). MatchOption (order_at v.orders c.args.o) ⊥ (λ order. slice_set orders c.get.result c.fill.new.self ≡ slice_set v.orders c.args.o (after_fill order c.args.amount))) c.self.view_is (rw number (order-changed (λ order. after_fill order c.args.amount) orders c.args.o x c.fill.new.self here.0 c.fill.ensures))

pub returns-then-not-is_open-clause-markets : goal.returns-then-not-is_open-clause-markets
returns-then-not-is_open-clause-markets c =
    let orders = c.self.inside.orders.items in
    let counts = c.self.inside.counts.items in
    let x = c.index_mut-order.result.now in
    let number : c.get.result ≡ c.args.o = c.get.ensures in
    let asked = subst (λ (v : OrdersView). MatchOption (order_at v.orders c.args.o) ⊥ (λ order. MayFill order c.args.amount)) (sym c.self.view_is) c.requires in
    let here = order-there (λ order. MayFill order c.args.amount) orders c.args.o x (rw number at c.index_mut-order.ensures.value) asked in
    let some = counted-some orders counts c.self.inside.limit c.args.o x here.0 here.1.still_open c.self.invariant.3 in
    let market : c.from.result ≡ x.placed.market = c.from.ensures ∙ (c.get-then-not-is_open.ensures.value ∙ (c.market-market.ensures ∙ ap (λ (y : OrderView). y.placed.market) c.fill.ensures)) in
    let read = counted-read orders counts c.self.inside.limit c.args.o x c.from.result c.index_mut.result.now here.0 here.1.still_open c.self.invariant.3 market c.index_mut.ensures.value in
    let fewer : c.close_one.new.count ≡ Some (count_at counts x.placed.market - 1) = rw read at c.close_one.ensures in
    rw (market, fewer) (markets-same counts x.placed.market (count_at counts x.placed.market - 1) (has_count-some counts x.placed.market some) ∙ ap (λ (v : OrdersView). v.markets) c.self.view_is)

pub returns-else-not-is_open-clause-orders : goal.returns-else-not-is_open-clause-orders
returns-else-not-is_open-clause-orders c =
    let orders = c.self.inside.orders.items in
    let x = c.index_mut-order.result.now in
    let number : c.get.result ≡ c.args.o = c.get.ensures in
    let asked = subst (λ (v : OrdersView). MatchOption (order_at v.orders c.args.o) ⊥ (λ order. MayFill order c.args.amount)) (sym c.self.view_is) c.requires in
    let here = order-there (λ order. MayFill order c.args.amount) orders c.args.o x (rw number at c.index_mut-order.ensures.value) asked in
    subst (λ (v : OrdersView). MatchOption (order_at v.orders c.args.o) ⊥ (λ order. slice_set orders c.get.result c.fill.new.self ≡ slice_set v.orders c.args.o (after_fill order c.args.amount))) c.self.view_is (rw number (order-changed (λ order. after_fill order c.args.amount) orders c.args.o x c.fill.new.self here.0 c.fill.ensures))
