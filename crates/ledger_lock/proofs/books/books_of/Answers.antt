use Rattle.std.proofs.Common.{◌≡◌, ◌<◌, ℕ, length, ap, ◌∙◌, arith}
use Rattle.settle_core.specs.Orders.{orders}
use Rattle.ledger_lock.specs.Books.{orders_in}
use Rattle.ledger_lock.proofs.Listings.{listed-so_far, next-so_far}
use Rattle.ledger_lock.proofs.books.books_of.Goals as goal
use Rattle.ledger_lock.proofs.books.books_of.Goals.{in-Some+in_ok-make_room, in_default}

pub list-requires-clause-next : goal.list-requires-clause-next
list-requires-clause-next c =
    let same : (market : ℕ) → orders_in c.match-order_facts.books.items market ≡ orders_in c.loop-number.books.items market = λ market. elim c.match-order_facts.branch [
      | in-Some+in_ok-make_room w ↦ ap (λ books. orders_in books.items market) w.books-is ∙ w.make_room.ensures.orders market
      | in_default w ↦ ap (λ books. orders_in books.items market) w.books-is
    ] in
    let inside : c.loop-number.number < length (orders c.args.exchange.now.history) = omega arith in
    next-so_far c.args.exchange.now.history c.loop-number.number c.match-order_facts.books.items inside (λ market within. same market ∙ c.loop-number.invariant.orders market within)

pub loop-number-preserved : goal.loop-number-preserved
loop-number-preserved c = record {
  proper = c.list.ensures.books;
  orders = λ market within.
      let same : orders_in c.match-order_facts.books.items market ≡ orders_in c.loop-number.books.items market = elim c.match-order_facts.branch [
        | in-Some+in_ok-make_room w ↦ ap (λ books. orders_in books.items market) w.books-is ∙ w.make_room.ensures.orders market
        | in_default w ↦ ap (λ books. orders_in books.items market) w.books-is
      ] in
      c.list.ensures.orders market ∙ listed-so_far c.args.exchange.now.history c.loop-number.number market (orders_in c.match-order_facts.books.items market) (omega arith) (same ∙ c.loop-number.invariant.orders market within);
}
