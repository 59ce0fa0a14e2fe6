use Rattle.std.proofs.Common.{◌++◌, sym, ap, ◌∙◌, append-nil}
use Rattle.settle_core.specs.Offers.{offer_at}
use Rattle.ledger_lock.specs.Books.{offered}
use Rattle.ledger_lock.proofs.OpenOrders.{offers-above, offers-more}
use Rattle.ledger_lock.proofs.books.offers_of.Goals as goal
use Rattle.ledger_lock.proofs.books.offers_of.Goals.{in-Some+in_ok-push, in_default}

pub push-requires-clause-above : goal.push-requires-clause-above
push-requires-clause-above c =
    offers-above c.args.exchange.now.history c.args.now c.args.book.now.orders c.loop-place.place c.order.result c.in-Some.offer c.loop-place.snapshot
    c.loop-place.invariant c.order.ensures.value c.order.ensures.ascending c.in-Some.ensures

pub loop-place-preserved : goal.loop-place-preserved
loop-place-preserved c =
    let more = offers-more (offer_at c.args.exchange.now.history c.args.now) c.args.book.now.orders c.loop-place.place c.order.result c.loop-place.snapshot c.order.ensures.value c.loop-place.invariant in
    elim c.match-offer.branch [
      | in-Some+in_ok-push w ↦ w.snapshot-is ∙ (w.in_ok-push.ensures.ok ∙ (ap (λ found. c.loop-place.snapshot ++ offered found) w.in-Some.ensures ∙ more))
      | in_default w ↦ w.snapshot-is ∙ (sym (append-nil c.loop-place.snapshot) ∙ (ap (λ found. c.loop-place.snapshot ++ offered found) w.in_default.ensures ∙ more))
    ]
