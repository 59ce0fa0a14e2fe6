-- Which of the two crossings, by prices and in exact fractions, gives the other.
use Rattle.std.proofs.Common.{ℕ, ◌≤◌, arith, lit≤}
use Rattle.order_rules.specs.declared.kinds.MatchKind.{MatchKind}
use Rattle.order_rules.specs.declared.kinds.MatchKind.TheVariants.{Complementary, Mint, Merge}
use Rattle.order_rules.specs.declared.prices.TheConstants.{ONE}
use Rattle.order_rules.specs.declared.side.Side.{Side}
use Rattle.order_rules.specs.declared.side.Side.TheVariants.{Buy, Sell}
use Rattle.order_rules.specs.Crossing.{OneCrossingGives}
use Rattle.order_rules.specs.Kinds.{AreSidesOf}
use Rattle.order_rules.specs.Orders.{Terms, IsAmount}
use Rattle.order_rules.proofs.Quotients.{price-le, whole-le_fractions, prices-le_whole}

-- two limits by their sides and numbers
abbrev terms : Side → ℕ → ℕ → Terms
terms side making taking = record { side = side; making = making; taking = taking }

-- by the kind and the sides, of which four pairs are those of a kind
one_gives : (kind : MatchKind) (a b : Side) (making taking making' taking' : ℕ) → 1 ≤ making → 1 ≤ taking → 1 ≤ making' → 1 ≤ taking'
    → AreSidesOf kind a b → OneCrossingGives kind (terms a making taking) (terms b making' taking')
one_gives Complementary Buy Sell making taking making' taking' m t m' t' sides =
    λ exactly. price-le taking' making' making taking ONE m' t (omega (arith, exactly))
one_gives Complementary Sell Buy making taking making' taking' m t m' t' sides =
    λ exactly. price-le taking making making' taking' ONE m t' (omega (arith, exactly))
one_gives Mint Buy Buy making taking making' taking' m t m' t' sides =
    λ reach. whole-le_fractions making taking making' taking' ONE (lit≤ tt) reach
one_gives Merge Sell Sell making taking making' taking' m t m' t' sides =
    λ exactly. prices-le_whole taking making taking' making' ONE m m' exactly
one_gives kind a b making taking making' taking' m t m' t' sides = absurd sides

-- of any two limits
pub one-crossing : (kind : MatchKind) (a b : Terms) → IsAmount a.making → IsAmount a.taking → IsAmount b.making → IsAmount b.taking
    → AreSidesOf kind a.side b.side → OneCrossingGives kind a b
one-crossing kind a b m t m' t' sides =
    one_gives kind a.side b.side a.making a.taking b.making b.taking m.some t.some m'.some t'.some sides
