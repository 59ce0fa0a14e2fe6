-- The fee of one side of a match. This project's own.
use Rattle.std.specs.Prelude.{ℕ, ◌-◌, ◌*◌, ◌/◌, ◌^◌, ◌&&◌, min, nat_lt, nat_le, if◌then◌else◌}
use Rattle.order_rules.specs.declared.prices.TheConstants.{ONE}
use Rattle.order_rules.specs.declared.side.Side.{Side}
use Rattle.order_rules.specs.declared.side.Side.TheVariants.{Buy, Sell}

-- the cheaper of a token at a price and its complement, in parts of ONE
abbrev pub margin : ℕ → ℕ
margin price = min price (ONE - price)

-- at a price of more than 0 and at most ONE: tokens of a buyer, cash of a seller, rounded down; rates are basis points
abbrev pub fee_at : Side → ℕ → ℕ → ℕ → ℕ
fee_at Buy rate tokens price = rate * margin price * tokens / (price * 10 ^ 4)
fee_at Sell rate tokens price = rate * margin price * tokens / (10 ^ 4 * ONE)

-- the fee on so many tokens at a price: nothing at a price of 0 or above ONE
abbrev pub fee_of : Side → ℕ → ℕ → ℕ → ℕ
fee_of side rate tokens price = if nat_lt 0 price && nat_le price ONE then fee_at side rate tokens price else 0

-- what a side gets before its fee: tokens of a buyer, cash of a seller
abbrev pub proceeds_of : Side → ℕ → ℕ → ℕ
proceeds_of Buy tokens price = tokens
proceeds_of Sell tokens price = price * tokens / ONE
