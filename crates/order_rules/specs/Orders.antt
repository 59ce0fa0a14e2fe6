-- What a limit order makes and takes.
-- Source: Polymarket CTF Exchange, first published source: makerAmount and takerAmount.
use Rattle.std.specs.Prelude.{ℕ, ◌≤◌}
use Rattle.condition_sets.specs.declared.amount.TheConstants.{MAX_AMOUNT}
use Rattle.order_rules.specs.declared.side.Side.{Side}

-- the side of a limit, what its maker pays at the most, and what the maker wants for all of it
pub record Terms : Type 0 where
  pub side : Side
  pub making : ℕ
  pub taking : ℕ

-- an amount of a limit: from 1 to 10^15
pub record IsAmount (n : ℕ) : Type 0 where
  pub some : 1 ≤ n
  pub within : n ≤ MAX_AMOUNT
