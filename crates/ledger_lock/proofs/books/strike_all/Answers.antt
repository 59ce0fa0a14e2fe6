use Rattle.std.proofs.Common.{◌==◌, [], sym, ap, ◌∙◌, arith, take_all}
use Rattle.settle_core.specs.Orders.{order_state}
use Rattle.ledger_lock.specs.Books.{is_named, orders_in, struck}
use Rattle.ledger_lock.proofs.Listings.{struck-more, struck-none}
use Rattle.ledger_lock.proofs.books.strike_all.Goals as goal

pub loop-maker-init : goal.loop-maker-init
loop-maker-init c = record {
  orders = λ market. sym (struck-none (order_state c.args.exchange.now.history) market (is_named []) (λ n named. cc) (orders_in c.args.books.now.items market));
  books = c.requires;
}

pub loop-maker-preserved : goal.loop-maker-preserved
loop-maker-preserved c = record {
  orders = λ market.
      let known = order_state c.args.exchange.now.history in
      c.strike.ensures.orders market ∙ (ap (struck known market (λ n. c.maker-item.result.0 == n)) (c.loop-maker.invariant.orders market)
      ∙ struck-more known market c.args.makers.now c.loop-maker.maker-index c.maker-item.result (orders_in c.args.books.now.items market) (omega arith) c.maker-item.is);
  books = c.strike.ensures.books;
}

pub returns-clause-orders : goal.returns-clause-orders
returns-clause-orders c = λ market.
    let all = take_all c.loop-maker.maker-index c.args.makers.now (omega arith) in
    c.loop-maker.invariant.orders market ∙ ap (λ ns. struck (order_state c.args.exchange.now.history) market (is_named ns) (orders_in c.args.books.now.items market)) all
