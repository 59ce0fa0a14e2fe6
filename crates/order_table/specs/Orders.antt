-- The orders that were placed, the markets in which they stand, and the nonces of accounts.
-- Source: Polymarket CTF Exchange, first published source: orders and nonces. Markets and orders' numbers are our own.
use Rattle.std.specs.Prelude.{◌≡◌, ◌==◌, ℕ, ◌+◌, ◌-◌, ◌≤◌, Bool, true, false, not, ◌&&◌, nat_lt, List, slice_get, slice_index_or, Option}
use Rattle.std.specs.List.{count_by}
use Rattle.order_table.specs.declared.order.OrderState.{OrderState}
use Rattle.order_table.specs.declared.order.Placed.{Placed}

-- what contracts see of an order: as it was placed, what was filled of what it makes, and whether it was ended
pub record OrderView : Type 0 where
  pub placed : Placed
  pub filled : ℕ
  pub ended : Bool

-- and of all of them: the orders by their numbers, whether each condition is a market, the nonce of each account, how many
-- orders of a market may be open, and how many more orders find room without memory
pub record OrdersView : Type 0 where
  pub orders : List OrderView
  pub markets : List Bool
  pub nonces : List ℕ
  pub limit : ℕ
  pub room : ℕ

-- ---- what is read

-- an order is open until it is ended, or filled to what it makes
abbrev pub is_open : OrderView → Bool
is_open order = not order.ended && nat_lt order.filled order.placed.limit.making

-- what is left of it
abbrev pub rest_of : OrderView → ℕ
rest_of order = order.placed.limit.making - order.filled

-- what is told of it
abbrev pub state_of : OrderView → OrderState
state_of order = record { placed = order.placed; filled = order.filled; is_open = is_open order }

-- the order of a number, where there is one
abbrev pub order_at : List OrderView → ℕ → Option OrderView
order_at orders o = slice_get orders o

-- whether an order is an open one of a market, and how many are
abbrev pub is_open_in : ℕ → OrderView → Bool
is_open_in market order = is_open order && (order.placed.market == market)

abbrev pub open_in : List OrderView → ℕ → ℕ
open_in orders market = count_by (is_open_in market) orders

-- no condition past the last is a market
abbrev pub is_market : OrdersView → ℕ → Bool
is_market table condition = slice_index_or table.markets condition false

abbrev pub nonce_of : OrdersView → ℕ → ℕ
nonce_of table account = slice_index_or table.nonces account 0

-- ---- what changes

-- an order that is cancelled, or whose time is over
abbrev pub after_end : OrderView → OrderView
after_end order = record order { ended = true }

-- a fill may take what is left of an open order
pub record MayFill (order : OrderView) (amount : ℕ) : Type 0 where
  pub still_open : is_open order ≡ true
  pub within : amount ≤ rest_of order

abbrev pub after_fill : OrderView → ℕ → OrderView
after_fill order amount = record order { filled = order.filled + amount }
