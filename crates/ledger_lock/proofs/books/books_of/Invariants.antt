use Rattle.std.proofs.Common.{◌≡◌, ◌≤◌, ℕ, take}
use Rattle.condition_sets.specs.declared.names.TheConstants.{MAX_CONDITION}
use Rattle.settle_core.specs.Orders.{orders}
use Rattle.ledger_lock.specs.Books.{AreBooks, open_from, orders_in}
use Rattle.ledger_lock.proofs.books.books_of.Given as goal

abbrev pub invariant-loop-number : goal.invariant-loop-number
invariant-loop-number l = record {
  proper : AreBooks l.exchange.limits l.books.items;
  orders : (market : ℕ) → market ≤ MAX_CONDITION → orders_in l.books.items market ≡ open_from market 0 (take l.number (orders l.exchange.history));
}
