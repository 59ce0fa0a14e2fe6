use Rattle.std.proofs.Common.{◌≤◌, ◌∙◌, arith}
use Rattle.order_table.specs.Orders.{open_in}
use Rattle.settle_core.specs.Orders.{orders}
use Rattle.ledger_lock.proofs.Listings.{may-add}
use Rattle.ledger_lock.proofs.books.list.Goals as goal

pub add-requires : goal.add-requires
add-requires c =
    let x = c.args.exchange.now in
    let few : open_in (orders x.history) c.in-Some.facts.market ≤ x.limits.orders = omega (arith, c.open_orders-open.ensures.value, c.open_orders-open.ensures.within) in
    let may = may-add x.limits x.history c.args.o c.from.result c.args.books.now.items c.in-Some.facts c.index_mut.result.now c.requires.books c.requires.next c.requires.room
    c.in-Some.ensures c.if-facts.true (c.from.ensures ∙ c.get.ensures.value) (omega (arith, c.from.ensures, c.get.ensures.within)) few c.index_mut.ensures.value in
    record { above = may.above; below = may.below; room = may.room }
