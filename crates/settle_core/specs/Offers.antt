-- What is told of an order, and how it is offered where it is live.
-- Source: Polymarket CTF Exchange, first published source, of live orders.
use Rattle.std.specs.Prelude.{ℕ, if◌then◌else◌, List, Option, Some, None}
use Rattle.book_shelves.specs.declared.offer.Offer.{Offer}
use Rattle.command_words.specs.declared.act.Act.{Act}
use Rattle.order_table.specs.declared.order.OrderState.{OrderState}
use Rattle.settle_core.specs.OrderRules.{is_live, rest_of}
use Rattle.settle_core.specs.Orders.{nonce, order_state}
use Rattle.settle_core.specs.declared.orders.OrderFacts.{OrderFacts}

abbrev pub facts_of : OrderState → OrderFacts
facts_of order = record {
  account = order.placed.account;
  market = order.placed.market;
  token = order.placed.token;
  limit = order.placed.limit;
  rest = rest_of order;
  is_open = order.is_open;
}

-- an order of a number as an offer
abbrev pub offer_of : ℕ → OrderState → Offer
offer_of number order = record { order = number; account = order.placed.account; token = order.placed.token; limit = order.placed.limit; rest = rest_of order }

-- an order is offered at a moment where it is live
abbrev pub offer_by : (ℕ → ℕ) → ℕ → ℕ → Option OrderState → Option Offer
offer_by nonces now number None = None
offer_by nonces now number (Some order) = if is_live nonces now order then Some (offer_of number order) else None

abbrev pub offer_at : List Act → ℕ → ℕ → Option Offer
offer_at history now number = offer_by (nonce history) now number (order_state history number)
