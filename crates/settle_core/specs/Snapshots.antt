-- The snapshot of a market at a moment: its live orders as offers, by ascending numbers.
-- Source: Polymarket CTF Exchange, first published source, of live orders.
use Rattle.std.specs.Prelude.{◌==◌, ℕ, suc, ◌&&◌, if◌then◌else◌, List, [], ◌∷◌, ◌++◌}
use Rattle.book_shelves.specs.declared.offer.Offer.{Offer}
use Rattle.command_words.specs.declared.act.Act.{Act}
use Rattle.order_table.specs.Orders.{OrderView, state_of}
use Rattle.order_table.specs.declared.order.OrderState.{OrderState}
use Rattle.settle_core.specs.Offers.{offer_of}
use Rattle.settle_core.specs.OrderRules.{is_live}
use Rattle.settle_core.specs.Orders.{nonce, orders}

-- the order of a number, where it is a live one of the market
abbrev pub offer_here : (ℕ → ℕ) → ℕ → ℕ → ℕ → OrderState → List Offer
offer_here nonces now market number order = if (order.placed.market == market) && is_live nonces now order then offer_of number order ∷ [] else []

-- of orders from a number on
abbrev pub offers_from : (ℕ → ℕ) → ℕ → ℕ → ℕ → List OrderView → List Offer
offers_from nonces now market number [] = []
offers_from nonces now market number (o ∷ os) = offer_here nonces now market number (state_of o) ++ offers_from nonces now market (suc number) os

abbrev pub snapshot : List Act → ℕ → ℕ → List Offer
snapshot history market now = offers_from (nonce history) now market 0 (orders history)
