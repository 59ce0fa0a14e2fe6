use Rattle.std.proofs.Common.{◌<◌, length, sym, ◌∙◌, arith}
use Rattle.settle_core.specs.Orders.{order_state}
use Rattle.ledger_lock.specs.Books.{orders_in}
use Rattle.ledger_lock.proofs.Listings.{struck-book, struck-open, struck-unknown}
use Rattle.ledger_lock.proofs.books.strike.Goals as goal

pub returns-then-not-facts-clause-orders : goal.returns-then-not-facts-clause-orders
returns-then-not-facts-clause-orders c =
    let books = c.args.books.now.items in
    let inside : c.from.result < length books = omega (arith, c.requires.as_many, c.from.ensures, c.get.ensures.within) in
    struck-book (order_state c.args.exchange.now.history) c.args.o c.from.result books c.in-Some.facts c.index_mut.result.now c.take_out.new.self
    c.in-Some.ensures c.if-not-facts.true (c.from.ensures ∙ c.get.ensures.value) inside c.index_mut.ensures.value c.take_out.ensures.orders

pub returns-else-not-facts-clause-orders : goal.returns-else-not-facts-clause-orders
returns-else-not-facts-clause-orders c = λ market.
    sym (struck-open (order_state c.args.exchange.now.history) c.args.o c.in-Some.facts market (orders_in c.args.books.now.items market) c.in-Some.ensures c.if-not-facts.false)

pub returns-in_default-clause-orders : goal.returns-in_default-clause-orders
returns-in_default-clause-orders c = λ market. sym (struck-unknown (order_state c.args.exchange.now.history) c.args.o market (orders_in c.args.books.now.items market) c.in_default.ensures)
