use Rattle.std.proofs.Common.{◌≡◌, ◌<◌, ◌≤◌, ℕ, List, [], length, get_or, sym, ◌∙◌, ap, arith}
use Rattle.std.proofs.lemmas.List.{get_or_default}
use Rattle.std.proofs.lemmas.Result.{IfOk-weaker}
use Rattle.book_shelves.specs.Shelves.{BookView}
use Rattle.book_shelves.specs.declared.offer.Offer.{Offer}
use Rattle.condition_sets.specs.declared.names.TheConstants.{MAX_CONDITION}
use Rattle.settle_core.specs.Exchange.{ExchangeView}
use Rattle.settle_core.specs.Offers.{offer_at}
use Rattle.settle_core.specs.Snapshots.{snapshot}
use Rattle.ledger_lock.specs.Books.{book_of, offers_of, open_orders}
use Rattle.ledger_lock.proofs.OpenOrders.{snapshot-offers}
use Rattle.ledger_lock.proofs.house.House.snapshot.Goals as goal

pub returns : goal.returns
returns c =
    let history = c.self.inside.exchange.history in
    let books = c.self.inside.books.items in
    let market = c.args.market in
    let within : market ≤ MAX_CONDITION = omega (arith, c.get.ensures.within, c.get.ensures.value) in
    let inside : market < length books = omega (arith, within, c.self.invariant.proper.as_many) in
    let at : c.from.result ≡ market = c.from.ensures ∙ c.get.ensures.value in
    let book : c.index-book.result.now ≡ book_of books market
    = c.index-book.ensures ∙ (ap (λ (i : ℕ). get_or books i c.index-book.result.now) at ∙ get_or_default books market c.index-book.result.now (record { orders = []; limit = 0; room = 0 }) inside) in
    let orders : c.index-book.result.now.orders ≡ open_orders history market = ap (λ (b : BookView). b.orders) book ∙ c.self.invariant.orders market within in
    let offers : offers_of (offer_at history c.args.now) c.index-book.result.now.orders ≡ snapshot c.args.self.now.history market c.args.now
    = ap (offers_of (offer_at history c.args.now)) orders ∙ (sym (snapshot-offers history market c.args.now) ∙ ap (λ (s : ExchangeView). snapshot s.history market c.args.now) c.self.view_is) in
    IfOk-weaker c.offers_of.result _ _ (λ (made : List Offer) told. told ∙ offers) c.offers_of.ensures
