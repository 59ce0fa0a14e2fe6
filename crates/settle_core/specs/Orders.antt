-- Markets, what became of the orders, and nonces, read off a history beside its book: nothing of them but a match changes
-- what anybody holds.
-- Source: Polymarket CTF Exchange, first published source, of orders, their fills and nonces; markets and the numbers of
-- orders are this project's own.
use Rattle.std.specs.Prelude.{◌==◌, ℕ, suc, ◌+◌, ◌&&◌, Bool, true, false, if◌then◌else◌, List, [], ◌∷◌, sum_by, slice_get, Option, option_map}
use Rattle.std.specs.List.{flat_map, list_any}
use Rattle.command_words.specs.declared.act.Act.{Act}
use Rattle.command_words.specs.declared.command.Command.{Command}
use Rattle.command_words.specs.declared.command.Command.TheVariants.{Market, Place, Cancel, Bump, Match, Lapse}
use Rattle.order_table.specs.Orders.{OrderView, state_of}
use Rattle.order_table.specs.declared.order.OrderState.{OrderState}
use Rattle.order_table.specs.declared.order.Placed.{Placed}
use Rattle.settle_core.specs.Book.{book}

-- ---- markets

abbrev pub opened_by : Command → List ℕ
opened_by (Market condition) = condition ∷ []
opened_by command = []

-- the conditions that were made markets
abbrev pub markets : List Act → List ℕ
markets history = flat_map (λ act. opened_by act.command) history

abbrev pub is_market : List Act → ℕ → Bool
is_market history condition = list_any (λ market. market == condition) (markets history)

-- ---- orders

-- the orders as they were placed, numbered from 0
abbrev pub placed : List Act → List Placed
placed history = (book history).placed

-- what a match fills of an order, as its taker or as one of its makers
abbrev pub fill_of : ℕ → ℕ × ℕ → ℕ
fill_of order maker = if maker.0 == order then maker.1 else 0

abbrev pub filled_by : ℕ → Command → ℕ
filled_by order (Match taker fill makers) = fill_of order (taker, fill) + sum_by (fill_of order) makers
filled_by order command = 0

-- what was filled of an order: the sum over all matches
abbrev pub filled : List Act → ℕ → ℕ
filled history order = sum_by (λ act. filled_by order act.command) history

abbrev pub ends : ℕ → Command → Bool
ends order (Cancel other) = other == order
ends order (Lapse other) = other == order
ends order command = false

-- an order was cancelled, or it lapsed
abbrev pub is_ended : List Act → ℕ → Bool
is_ended history order = list_any (λ act. ends order act.command) history

-- the orders with what became of them, from a number on
abbrev pub orders_from : List Act → ℕ → List Placed → List OrderView
orders_from history number [] = []
orders_from history number (order ∷ orders) = record { placed = order; filled = filled history number; ended = is_ended history number } ∷ orders_from history (suc number) orders

abbrev pub orders : List Act → List OrderView
orders history = orders_from history 0 (placed history)

-- what is known of the order of a number, where it was placed
abbrev pub order_state : List Act → ℕ → Option OrderState
order_state history order = option_map state_of (slice_get (orders history) order)

-- ---- nonces

abbrev pub is_bump : Command → Bool
is_bump Bump = true
is_bump command = false

-- the nonce of an account: how often it raised it
abbrev pub nonce : List Act → ℕ → ℕ
nonce history account = sum_by (λ act. if (act.account == account) && is_bump act.command then 1 else 0) history

abbrev pub is_place : Command → Bool
is_place (Place market set side making taking expires nonce fee) = true
is_place command = false

-- whether a command is about markets, orders or nonces alone
abbrev pub trades : Command → Bool
trades (Market condition) = true
trades (Place market set side making taking expires nonce fee) = true
trades (Cancel order) = true
trades Bump = true
trades (Lapse order) = true
trades command = false
