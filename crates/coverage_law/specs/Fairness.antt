-- What an order gets for what is filled of it. This project's own statement of an order's limit.
use Rattle.std.specs.Prelude.{ℕ, ◌*◌, ◌/◌, ◌≤◌}

-- a fill of an order: what the order makes and what it takes for all of that, how much of it was filled, and what it received
-- for the fill, before its fee
pub record Fill : Type 0 where
  pub making : ℕ
  pub taking : ℕ
  pub filled : ℕ
  pub received : ℕ

-- it received no less than its limit, rounded down
abbrev pub IsAtLimit : Fill → Type 0
IsAtLimit f = f.filled * f.taking / f.making ≤ f.received
