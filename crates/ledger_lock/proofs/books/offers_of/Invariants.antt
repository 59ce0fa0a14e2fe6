use Rattle.std.proofs.Common.{◌≡◌, take}
use Rattle.settle_core.specs.Offers.{offer_at}
use Rattle.ledger_lock.specs.Books.{offers_of}
use Rattle.ledger_lock.proofs.books.offers_of.Given as goal

abbrev pub invariant-loop-place : goal.invariant-loop-place
invariant-loop-place l = l.snapshot ≡ offers_of (offer_at l.exchange.history l.now) (take l.place l.book.orders)
