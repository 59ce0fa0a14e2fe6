use Rattle.std.proofs.Common.{◌≡◌, ◌-◌, Some, false, true, sym, ◌∙◌, ap, subst}
use Rattle.std.specs.Prelude.{MatchOption, slice_set}
use Rattle.order_table.specs.Counts.{count_at}
use Rattle.order_table.specs.Orders.{OrderView, OrdersView, after_end, is_open, order_at}
use Rattle.order_table.proofs.Counting.{counted-close, counted-read, counted-some, has_count-some, markets-same, order-changed, order-there}
use Rattle.order_table.proofs.orders.Orders.end.Goals as goal

pub close_one-requires : goal.close_one-requires
close_one-requires c =
    let orders = c.self.inside.orders.items in
    let counts = c.self.inside.counts.items in
    let x = c.index_mut-order.result.now in
    let number : c.get.result ≡ c.args.o = c.get.ensures in
    let asked = subst (λ (v : OrdersView). MatchOption (order_at v.orders c.args.o) ⊥ (λ order. is_open order ≡ true)) (sym c.self.view_is) c.requires in
    let here = order-there (λ order. is_open order ≡ true) orders c.args.o x (rw number at c.index_mut-order.ensures.value) asked in
    let some = counted-some orders counts c.self.inside.limit c.args.o x here.0 here.1 c.self.invariant.3 in
    let market : c.from.result ≡ x.placed.market = c.from.ensures ∙ (c.get-2.ensures.value ∙ (c.market-market.ensures ∙ ap (λ (y : OrderView). y.placed.market) c.end.ensures)) in
    let read = counted-read orders counts c.self.inside.limit c.args.o x c.from.result c.index_mut.result.now here.0 here.1 c.self.invariant.3 market c.index_mut.ensures.value in
    rw read some

pub invariant_of-self : goal.invariant_of-self
invariant_of-self c =
    let orders = c.self.inside.orders.items in
    let counts = c.self.inside.counts.items in
    let x = c.index_mut-order.result.now in
    let number : c.get.result ≡ c.args.o = c.get.ensures in
    let asked = subst (λ (v : OrdersView). MatchOption (order_at v.orders c.args.o) ⊥ (λ order. is_open order ≡ true)) (sym c.self.view_is) c.requires in
    let here = order-there (λ order. is_open order ≡ true) orders c.args.o x (rw number at c.index_mut-order.ensures.value) asked in
    let market : c.from.result ≡ x.placed.market = c.from.ensures ∙ (c.get-2.ensures.value ∙ (c.market-market.ensures ∙ ap (λ (y : OrderView). y.placed.market) c.end.ensures)) in
    let read = counted-read orders counts c.self.inside.limit c.args.o x c.from.result c.index_mut.result.now here.0 here.1 c.self.invariant.3 market c.index_mut.ensures.value in
    let fewer : c.close_one.new.count ≡ Some (count_at counts x.placed.market - 1) = rw read at c.close_one.ensures in
    let closed : is_open c.end.new.self ≡ false = ap is_open c.end.ensures in
    (c.self.invariant.0, c.self.invariant.1, c.self.invariant.2, rw (number, market, fewer) (counted-close orders counts c.self.inside.limit c.args.o x c.end.new.self here.0 here.1 closed c.self.invariant.3), c.self.invariant.4)

pub returns-clause-orders : goal.returns-clause-orders
returns-clause-orders c =
    let orders = c.self.inside.orders.items in
    let x = c.index_mut-order.result.now in
    let number : c.get.result ≡ c.args.o = c.get.ensures in
    let asked = subst (λ (v : OrdersView). MatchOption (order_at v.orders c.args.o) ⊥ (λ order. is_open order ≡ true)) (sym c.self.view_is) c.requires in
    let here = order-there (λ order. is_open order ≡ true) orders c.args.o x (rw number at c.index_mut-order.ensures.value) asked in
    subst (λ (v : OrdersView). MatchOption (order_at v.orders c.args.o) ⊥ (λ order. slice_set orders c.get.result c.end.new.self ≡ slice_set v.orders c.args.o (after_end order))) c.self.view_is (rw number (order-changed after_end orders c.args.o x c.end.new.self here.0 c.end.ensures))

pub returns-clause-markets : goal.returns-clause-markets
returns-clause-markets c =
    let orders = c.self.inside.orders.items in
    let counts = c.self.inside.counts.items in
    let x = c.index_mut-order.result.now in
    let number : c.get.result ≡ c.args.o = c.get.ensures in
    let asked = subst (λ (v : OrdersView). MatchOption (order_at v.orders c.args.o) ⊥ (λ order. is_open order ≡ true)) (sym c.self.view_is) c.requires in
    let here = order-there (λ order. is_open order ≡ true) orders c.args.o x (rw number at c.index_mut-order.ensures.value) asked in
    let some = counted-some orders counts c.self.inside.limit c.args.o x here.0 here.1 c.self.invariant.3 in
    let market : c.from.result ≡ x.placed.market = c.from.ensures ∙ (c.get-2.ensures.value ∙ (c.market-market.ensures ∙ ap (λ (y : OrderView). y.placed.market) c.end.ensures)) in
    let read = counted-read orders counts c.self.inside.limit c.args.o x c.from.result c.index_mut.result.now here.0 here.1 c.self.invariant.3 market c.index_mut.ensures.value in
    let fewer : c.close_one.new.count ≡ Some (count_at counts x.placed.market - 1) = rw read at c.close_one.ensures in
    rw (market, fewer) (markets-same counts x.placed.market (count_at counts x.placed.market - 1) (has_count-some counts x.placed.market some) ∙ ap (λ (v : OrdersView). v.markets) c.self.view_is)
