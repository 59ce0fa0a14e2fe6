-- The limits of an exchange.
use Rattle.std.specs.Prelude.{ℕ, ◌<◌, ◌≤◌}
use Rattle.settle_core.specs.declared.limits.TheConstants.{STANDARD_CONDITIONS, STANDARD_EVENTS, STANDARD_ORDERS}
use Rattle.ledger_book.specs.declared.ledger.TheConstants.{MAX_ENTRIES}
use Rattle.command_words.specs.declared.act.TheConstants.{MAX_HISTORY}

-- how many conditions, events, open orders of a market, nonzero balances and acts there may be
pub record Bounds : Type 0 where
  pub conditions : ℕ
  pub events : ℕ
  pub orders : ℕ
  pub entries : ℕ
  pub history : ℕ

-- the limits of the program
abbrev pub standard : Bounds
standard = record { conditions = STANDARD_CONDITIONS; events = STANDARD_EVENTS; orders = STANDARD_ORDERS; entries = MAX_ENTRIES; history = MAX_HISTORY }

-- a limit is neither 0 nor above the standard one
abbrev pub IsLimit : ℕ → ℕ → Type 0
IsLimit limit most = (0 < limit) × (limit ≤ most)

pub record AreLimits (b : Bounds) : Type 0 where
  pub conditions : IsLimit b.conditions standard.conditions
  pub events : IsLimit b.events standard.events
  pub orders : IsLimit b.orders standard.orders
  pub entries : IsLimit b.entries standard.entries
  pub history : IsLimit b.history standard.history
