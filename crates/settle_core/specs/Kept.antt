-- What an exchange keeps true of its parts.
use Rattle.std.specs.Prelude.{◌≡◌, ◌==◌, ◌||◌, true, false, ℕ, ◌+◌, ◌*◌, ◌<◌, ◌≤◌, ⊤, List, [], ◌∷◌, ◌++◌, length, map, replicate, slice_get, slice_set, Option, None, Some, MatchOption}
use Rattle.condition_sets.specs.declared.amount.TheConstants.{MAX_AMOUNT}
use Rattle.command_words.specs.declared.act.TheConstants.{MAX_HISTORY}
use Rattle.command_words.specs.declared.act.Act.{Act}
use Rattle.command_words.specs.declared.command.Command.{Command}
use Rattle.command_words.specs.declared.command.Command.TheVariants.{Prepare, Event, Report, Answer, Market, Place, Cancel, Bump, Match, Lapse}
use Rattle.settle_core.specs.Book.{answer_of, conditions, events, postings, told}
use Rattle.settle_core.specs.Bounds.{Bounds}
use Rattle.collection_keys.specs.Collections.{Pairs}
use Rattle.event_table.specs.Events.{AreNew, EventView, EventsView, MayAnswer, question_in}
use Rattle.ledger_book.specs.Entries.{HasEntries}
use Rattle.ledger_book.specs.Ledger.{LedgerView, amount_at, supply_at, names}
use Rattle.ledger_book.specs.Postings.{credits, debits, minted, burnt}
use Rattle.order_table.specs.Orders.{OrderView, OrdersView, MayFill, after_end, after_fill, is_market, is_open, nonce_of, open_in}
use Rattle.order_table.specs.declared.order.Placed.{Placed}
use Rattle.order_table.specs.declared.orders.TheConstants.{MAX_NONCE, MAX_ORDERS}
use Rattle.settle_core.specs.Legal.{IsLegal}
use Rattle.settle_core.specs.Orders.{is_market as is_market_in, nonce, orders}
use Rattle.settle_core.specs.Placing.{placed_by}
use Rattle.settle_core.specs.Postings.{vault}
use Rattle.condition_table.specs.Conditions.{ConditionsView, numerators_at, place_of, IsReport}
use Rattle.condition_table.specs.declared.facts.Facts.{Facts}

-- the most that a command posts
abbrev pub most_posted : ℕ
most_posted = 65

-- the table has what was told of each condition
pub record AreReported (facts : List Facts) (numerators : List (Option (List ℕ))) (told : ℕ → Option (List ℕ)) : Type 0 where
  pub as_many : length numerators ≡ length facts
  pub each : (condition : ℕ) → numerators_at numerators condition ≡ told condition

-- the numerators of a table after a command that is accepted, by the events before it
abbrev pub numerators_set : List (Option (List ℕ)) → Option ℕ → List ℕ → List (Option (List ℕ))
numerators_set numerators None told = numerators
numerators_set numerators (Some condition) told = slice_set numerators condition (Some told)

abbrev pub numerators_after : List EventView → List (Option (List ℕ)) → Command → List (Option (List ℕ))
numerators_after made numerators (Prepare oracle question slots) = numerators ++ None ∷ []
numerators_after made numerators (Event oracle questions fee) = numerators ++ replicate questions None
numerators_after made numerators (Report condition payouts) = slice_set numerators condition (Some payouts)
numerators_after made numerators (Answer event question won) = numerators_set numerators (question_in made event question) (answer_of won)
numerators_after made numerators command = numerators

-- how many questions' conditions a command prepares at once
abbrev pub questions_made : Command → ℕ
questions_made (Event oracle questions fee) = questions
questions_made command = 0

-- A command may be entered into the tables: what it prepares is new and there is room for it, and what it reports or answers
-- may be, and wasn't before.
abbrev pub MayEnter : EventsView → ConditionsView → Command → Type 0
MayEnter made table (Prepare oracle question slots) =
    (place_of (record { oracle = oracle; question = question; slots = slots }) table.facts ≡ None) × (length table.facts < table.limit) × (0 < table.room)
MayEnter made table (Event oracle questions fee) =
    AreNew (length made.events) questions table.facts × (length made.events < made.limit) × (length table.facts + questions ≤ table.limit) × (questions ≤ made.room) × (questions ≤ table.room)
MayEnter made table (Report condition payouts) =
    (numerators_at table.numerators condition ≡ None) × MatchOption (slice_get table.facts condition) ⊥ (λ f. IsReport f.slots payouts)
MayEnter made table (Answer event question won) =
    MatchOption (slice_get made.events event) ⊥ (λ e. MatchOption (slice_get e.conditions question) ⊥ (λ condition. MayAnswer e table condition (answer_of won)))
MayEnter made table command = ⊤

-- The history is legal and within its limit, and the tables and the ledger are what the history gives: with what was
-- taken, each balance and each supply is what was paid. There are no more names than postings.
pub record IsKept (limits : Bounds) (made : EventsView) (table : ConditionsView) (ledger : LedgerView) (history : List Act) : Type 0 where
  pub legal : IsLegal limits history
  pub within : length history ≤ limits.history
  pub bounded : limits.history ≤ MAX_HISTORY
  pub events : made.events ≡ events history
  pub most_events : made.limit ≡ limits.events
  pub conditions : table.facts ≡ conditions history
  pub reports : AreReported table.facts table.numerators (told history)
  pub most : table.limit ≡ limits.conditions
  pub vault : ledger.vault ≡ vault history
  pub funded : ledger.vault ≤ MAX_AMOUNT
  pub balances : (a : ℕ) (k : Pairs) → amount_at ledger a k + debits (postings history) a k ≡ credits (postings history) a k
  pub supplies : (k : Pairs) → supply_at ledger k + burnt (postings history) k ≡ minted (postings history) k
  pub limit : ledger.limit ≡ limits.entries
  pub entries : (n : ℕ) → HasEntries (amount_at ledger) n → n ≤ limits.entries
  pub names : length (names ledger) ≤ length (postings history)
  pub few : length (postings history) ≤ most_posted * length history

-- ---- markets, orders and nonces

-- the table of orders has what the history gives
pub record AreOrdersOf (limits : Bounds) (table : OrdersView) (history : List Act) : Type 0 where
  pub orders : table.orders ≡ orders history
  pub markets : (condition : ℕ) → is_market table condition ≡ is_market_in history condition
  pub nonces : (account : ℕ) → nonce_of table account ≡ nonce history account
  pub limit : table.limit ≡ limits.orders

-- the orders of a table, where some of them are filled by so much more, one after another
abbrev pub filled_at : List OrderView → ℕ → ℕ → Option OrderView → List OrderView
filled_at orders order fill None = orders
filled_at orders order fill (Some o) = slice_set orders order (after_fill o fill)

abbrev pub filled_in : List OrderView → List (ℕ × ℕ) → List OrderView
filled_in orders [] = orders
filled_in orders (n ∷ ns) = filled_in (filled_at orders n.0 n.1 (slice_get orders n.0)) ns

-- each may be filled so, where those before it were
abbrev pub MayFillAll : List OrderView → List (ℕ × ℕ) → Type 0
MayFillAll orders [] = ⊤
MayFillAll orders (n ∷ ns) = MatchOption (slice_get orders n.0) ⊥ (λ o. MayFill o n.1) × MayFillAll (filled_at orders n.0 n.1 (slice_get orders n.0)) ns

-- A command of an account may be entered into the table of orders: it opens a market that is none yet, places an order in a
-- market where one more may be open and for which there is room, ends one that is open, raises a nonce, or fills orders that
-- have as much left.
abbrev pub MayTrade : OrdersView → ℕ → Command → Type 0
MayTrade table account (Market condition) = is_market table condition ≡ false
MayTrade table account (Place market set side making taking expires nonce fee) =
    (is_market table market ≡ true) × (open_in table.orders market < table.limit) × (length table.orders < MAX_ORDERS) × (0 < table.room) × (((set == 1) || (set == 2)) ≡ true)
MayTrade table account (Cancel order) = MatchOption (slice_get table.orders order) ⊥ (λ o. is_open o ≡ true)
MayTrade table account (Lapse order) = MatchOption (slice_get table.orders order) ⊥ (λ o. is_open o ≡ true)
MayTrade table account Bump = nonce_of table account < MAX_NONCE
MayTrade table account (Match taker fill makers) = MayFillAll table.orders ((taker, fill) ∷ makers)
MayTrade table account command = ⊤

-- a table where an order is ended
abbrev pub ended_in : List OrderView → ℕ → Option OrderView → List OrderView
ended_in orders order None = orders
ended_in orders order (Some o) = slice_set orders order (after_end o)

-- orders as they are placed: nothing of them is filled, and none is ended
abbrev pub views_of : List Placed → List OrderView
views_of placed = map (λ order. record { placed = order; filled = 0; ended = false }) placed

-- the orders of a table after a command that is accepted
abbrev pub orders_after : ℕ → List OrderView → Command → List OrderView
orders_after account orders (Cancel order) = ended_in orders order (slice_get orders order)
orders_after account orders (Lapse order) = ended_in orders order (slice_get orders order)
orders_after account orders (Match taker fill makers) = filled_in orders ((taker, fill) ∷ makers)
orders_after account orders command = orders ++ views_of (placed_by account command)
