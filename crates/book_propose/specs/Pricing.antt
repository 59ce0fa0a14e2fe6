-- Candidates with their effective prices, as the best of them are kept. This project's own.
use Rattle.std.specs.Prelude.{Bool}
use Rattle.book_propose.specs.Candidates.{comes_first, effective}
use Rattle.book_propose.specs.declared.priced.Priced.{Priced}
use Rattle.book_shelves.specs.declared.offer.Offer.{Offer}
use Rattle.order_rules.specs.declared.side.Side.{Side}

-- an offer with its effective price for a taker
abbrev pub priced : Offer → Offer → Priced
priced taker offer = record { offer = offer; price = effective taker offer }

-- which of two comes first for a taker of a side
abbrev pub comes_before : Side → Priced → Priced → Bool
comes_before side a b = comes_first side a.price a.offer.order b.price b.offer.order
