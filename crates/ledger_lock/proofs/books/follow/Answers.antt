use Rattle.std.proofs.Common.{◌==◌, [], ◌∷◌, sym, ap, ◌∙◌}
use Rattle.command_words.specs.declared.command.Command.{Command}
use Rattle.settle_core.specs.OrderRules.{orders_changed}
use Rattle.settle_core.specs.Orders.{is_place, order_state}
use Rattle.ledger_lock.specs.Books.{is_named, orders_in, struck}
use Rattle.ledger_lock.proofs.Listings.{may-list, named-one, quiet, struck-books, struck-none, struck-struck}
use Rattle.ledger_lock.proofs.books.follow.Goals as goal

pub list-requires-clause-next : goal.list-requires-clause-next
list-requires-clause-next c =
    (may-list c.args.exchange.now.limits c.args.exchange.now.history c.args.command.now c.args.number c.args.books.now.items (ap is_place c.in-Place.is) c.requires).next

pub list-requires-clause-room : goal.list-requires-clause-room
list-requires-clause-room c =
    (may-list c.args.exchange.now.limits c.args.exchange.now.history c.args.command.now c.args.number c.args.books.now.items (ap is_place c.in-Place.is) c.requires).room

pub returns-in-Place : goal.returns-in-Place
returns-in-Place c =
    let may = may-list c.args.exchange.now.limits c.args.exchange.now.history c.args.command.now c.args.number c.args.books.now.items (ap is_place c.in-Place.is) c.requires in
    record { proper = c.list.ensures.books; orders = λ market inside. c.list.ensures.orders market ∙ may.all market inside }

pub returns-in-Cancel : goal.returns-in-Cancel
returns-in-Cancel c =
    let x = c.args.exchange.now in
    struck-books x.limits x.history c.args.command.now c.args.number c.args.books.now.items c.strike.new.books.items (λ n. c.in-Cancel.order == n) (ap is_place c.in-Cancel.is) c.requires c.strike.ensures.books
    (named-one c.in-Cancel.order ∙ ap (λ (command : Command). is_named (orders_changed command)) (sym c.in-Cancel.is)) c.strike.ensures.orders

pub returns-in-Lapse : goal.returns-in-Lapse
returns-in-Lapse c =
    let x = c.args.exchange.now in
    struck-books x.limits x.history c.args.command.now c.args.number c.args.books.now.items c.strike-in-Lapse.new.books.items (λ n. c.in-Lapse.order == n) (ap is_place c.in-Lapse.is) c.requires c.strike-in-Lapse.ensures.books
    (named-one c.in-Lapse.order ∙ ap (λ (command : Command). is_named (orders_changed command)) (sym c.in-Lapse.is)) c.strike-in-Lapse.ensures.orders

pub returns-in-Match : goal.returns-in-Match
returns-in-Match c =
    let x = c.args.exchange.now in
    let known = order_state x.history in
    let makers = c.as_slice.result.now in
    struck-books x.limits x.history c.args.command.now c.args.number c.args.books.now.items c.strike_all.new.books.items (is_named ((c.in-Match.taker, c.in-Match.fill) ∷ makers)) (ap is_place c.in-Match.is) c.requires c.strike_all.ensures.books
    (ap (λ ns. is_named ((c.in-Match.taker, c.in-Match.fill) ∷ ns)) c.as_slice.ensures ∙ ap (λ (command : Command). is_named (orders_changed command)) (sym c.in-Match.is))
    (λ market. c.strike_all.ensures.orders market ∙ (ap (struck known market (is_named makers)) (c.strike-in-Match.ensures.orders market)
    ∙ struck-struck known market (λ n. c.in-Match.taker == n) (is_named makers) (orders_in c.args.books.now.items market)))

pub returns-in_default : goal.returns-in_default
returns-in_default c =
    let x = c.args.exchange.now in
    let books = c.args.books.now.items in
    let none = quiet c.args.command.now c.in_default.not-Place c.in_default.not-Cancel c.in_default.not-Match c.in_default.not-Lapse in
    struck-books x.limits x.history c.args.command.now c.args.number books books (is_named []) none.0 c.requires c.requires.were.proper (ap is_named (sym none.1))
    (λ market. sym (struck-none (order_state x.history) market (is_named []) (λ n named. cc) (orders_in books market)))
