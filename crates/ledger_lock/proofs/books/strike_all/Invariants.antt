use Rattle.std.proofs.Common.{◌≡◌, ℕ, take}
use Rattle.settle_core.specs.Orders.{order_state}
use Rattle.ledger_lock.specs.Books.{AreBooks, is_named, orders_in, struck}
use Rattle.ledger_lock.proofs.books.strike_all.Given as goal

abbrev pub invariant-loop-maker : goal.invariant-loop-maker
invariant-loop-maker l = record {
  orders : (market : ℕ) → orders_in l.books.items market ≡ struck (order_state l.exchange.history) market (is_named (take l.maker-index l.makers)) (orders_in l.initial.books.items market);
  books : AreBooks l.exchange.limits l.books.items;
}
