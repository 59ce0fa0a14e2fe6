-- The books of a house: the open orders of each condition's market. This project's own.
use Rattle.std.specs.Prelude.{◌≡◌, ◌==◌, ℕ, suc, ◌+◌, ◌<◌, ◌≤◌, ◌&&◌, ⊤, Bool, false, not, if◌then◌else◌, List, [], ◌∷◌, ◌++◌, length, filter, slice_index_or, Option, Some, None}
use Rattle.std.specs.List.{flat_map, list_any}
use Rattle.book_shelves.specs.Shelves.{BookView}
use Rattle.book_shelves.specs.declared.offer.Offer.{Offer}
use Rattle.command_words.specs.declared.act.Act.{Act}
use Rattle.command_words.specs.declared.command.Command.{Command}
use Rattle.command_words.specs.declared.command.Command.TheVariants.{Place}
use Rattle.condition_sets.specs.declared.names.TheConstants.{MAX_CONDITION}
use Rattle.order_table.specs.Orders.{OrderView, is_open_in}
use Rattle.order_table.specs.declared.order.OrderState.{OrderState}
use Rattle.settle_core.specs.Bounds.{Bounds}
use Rattle.settle_core.specs.Orders.{order_state, orders}

-- ---- what books list

-- the numbers of the open orders of a market, by ascending numbers from a number on
abbrev pub open_from : ℕ → ℕ → List OrderView → List ℕ
open_from market number [] = []
open_from market number (o ∷ os) = (if is_open_in market o then number ∷ [] else []) ++ open_from market (suc number) os

abbrev pub open_orders : List Act → ℕ → List ℕ
open_orders history market = open_from market 0 (orders history)

-- the book of a market, and the orders in it
abbrev pub book_of : List BookView → ℕ → BookView
book_of books market = slice_index_or books market (record { orders = []; limit = 0; room = 0 })

abbrev pub orders_in : List BookView → ℕ → List ℕ
orders_in books market = (book_of books market).orders

-- each condition has a book, in which there may be so many orders
pub record AreBooks (limits : Bounds) (books : List BookView) : Type 0 where
  pub as_many : length books ≡ MAX_CONDITION + 1
  pub limit : (market : ℕ) → market ≤ MAX_CONDITION → (book_of books market).limit ≡ limits.orders

-- and it has the open orders of its market
pub record AreBooksOf (limits : Bounds) (history : List Act) (books : List BookView) : Type 0 where
  pub proper : AreBooks limits books
  pub orders : (market : ℕ) → market ≤ MAX_CONDITION → orders_in books market ≡ open_orders history market

-- what holds of the market in which a command places an order
abbrev pub IfPlaced : Command → (ℕ → Type 0) → Type 0
IfPlaced (Place market set side making taking expires nonce fee) P = P market
IfPlaced command P = ⊤

-- ---- how they go on

-- an order is an open one of a market, and it is one of it that isn't open any more, by what is known of it
abbrev pub is_open_of : ℕ → Option OrderState → Bool
is_open_of market None = false
is_open_of market (Some order) = order.is_open && (order.placed.market == market)

abbrev pub is_shut_of : ℕ → Option OrderState → Bool
is_shut_of market None = false
is_shut_of market (Some order) = not order.is_open && (order.placed.market == market)

-- the orders of a market's book with one more, where that is an open one of it
abbrev pub listed : (ℕ → Option OrderState) → ℕ → ℕ → List ℕ → List ℕ
listed known market o book = book ++ (if is_open_of market (known o) then o ∷ [] else [])

-- and without those that are named, where these aren't open any more
abbrev pub struck : (ℕ → Option OrderState) → ℕ → (ℕ → Bool) → List ℕ → List ℕ
struck known market named book = filter (λ n. not (named n && is_shut_of market (known n))) book

-- an order is named by some, each of which is given with its fill
abbrev pub is_named : List (ℕ × ℕ) → ℕ → Bool
is_named ns o = list_any (λ n. n.0 == o) ns

-- An order is the next to be listed: with it the books have the first ones of the open orders.
abbrev pub IsNext : List Act → ℕ → List BookView → Type 0
IsNext history o books = (market : ℕ) → market ≤ MAX_CONDITION → (more : List ℕ) × (open_orders history market ≡ listed (order_state history) market o (orders_in books market) ++ more)

-- there is room for it in the book of its market
abbrev pub HasRoom : List Act → ℕ → List BookView → Type 0
HasRoom history o books = (order : OrderState) → order_state history o ≡ Some order → 0 < (book_of books order.placed.market).room

-- The books are those before the last act of a history, whose command this is, and there is room for the order that it places,
-- which has the next number.
pub record AreBehind (limits : Bounds) (history : List Act) (command : Command) (number : ℕ) (books : List BookView) : Type 0 where
  pub before : List Act
  pub act : Act
  pub last : history ≡ before ++ act ∷ []
  pub asked : act.command ≡ command
  pub next : number ≡ length (orders before)
  pub were : AreBooksOf limits before books
  pub room : IfPlaced command (λ market. 0 < (book_of books market).room)

-- ---- what is read of one

-- the offers of some orders, where they are offered
abbrev pub offered : Option Offer → List Offer
offered None = []
offered (Some offer) = offer ∷ []

abbrev pub offers_of : (ℕ → Option Offer) → List ℕ → List Offer
offers_of known numbers = flat_map (λ n. offered (known n)) numbers
