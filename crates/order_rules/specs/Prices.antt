-- Prices of limits, and what a fill of one takes.
-- Source: Polymarket CTF Exchange, first published source: prices and taking amounts, each rounded down.
use Rattle.std.specs.Prelude.{ℕ, ◌*◌, ◌/◌}
use Rattle.order_rules.specs.declared.prices.TheConstants.{ONE}
use Rattle.order_rules.specs.declared.side.Side.{Side}
use Rattle.order_rules.specs.declared.side.Side.TheVariants.{Buy, Sell}
use Rattle.order_rules.specs.Orders.{Terms}

-- the cash of a token, in parts of ONE, where a side pays `making` for `taking`
abbrev pub price_by : Side → ℕ → ℕ → ℕ
price_by Buy making taking = making * ONE / taking
price_by Sell making taking = taking * ONE / making

-- the price of a limit: a buyer makes cash and takes tokens, a seller the reverse
abbrev pub price_of : Terms → ℕ
price_of t = price_by t.side t.making t.taking

-- what the maker of a limit gets for a fill, before any fee
abbrev pub taking_of : Terms → ℕ → ℕ
taking_of t fill = fill * t.taking / t.making
