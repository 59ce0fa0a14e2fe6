-- Whether two orders cross: by their prices, and in exact fractions.
-- Source of the first: Polymarket CTF Exchange, first published source. The second is this project's own.
use Rattle.std.specs.Prelude.{◌+◌, ◌*◌, ◌≤◌}
use Rattle.order_rules.specs.declared.kinds.MatchKind.{MatchKind}
use Rattle.order_rules.specs.declared.kinds.MatchKind.TheVariants.{Complementary, Mint, Merge}
use Rattle.order_rules.specs.declared.prices.TheConstants.{ONE}
use Rattle.order_rules.specs.declared.side.Side.{Side}
use Rattle.order_rules.specs.declared.side.Side.TheVariants.{Buy, Sell}
use Rattle.order_rules.specs.Orders.{Terms}
use Rattle.order_rules.specs.Prices.{price_of}

-- the buyer of a complementary match, who is either of the two, and the seller
abbrev pub buyer_by : Side → Terms → Terms → Terms
buyer_by Buy a b = a
buyer_by Sell a b = b

abbrev pub buyer_of : Terms → Terms → Terms
buyer_of a b = buyer_by a.side a b

abbrev pub seller_of : Terms → Terms → Terms
seller_of a b = buyer_by a.side b a

-- By prices: a buyer pays at least what the seller asks; two buyers pay at least ONE for a pair of tokens; two sellers
-- ask at most ONE for a pair.
abbrev pub Crosses : MatchKind → Terms → Terms → Type 0
Crosses Complementary a b = price_of (seller_of a b) ≤ price_of (buyer_of a b)
Crosses Mint a b = ONE ≤ price_of a + price_of b
Crosses Merge a b = price_of a + price_of b ≤ ONE

-- the buyer's cash for a token is at least the seller's: making / taking of the one, taking / making of the other
abbrev pub BuysExactly : Terms → Terms → Type 0
BuysExactly buyer seller = seller.taking * buyer.taking ≤ buyer.making * seller.making

-- In exact fractions: the same of the amounts themselves, with no rounding.
abbrev pub CrossesExactly : MatchKind → Terms → Terms → Type 0
CrossesExactly Complementary a b = BuysExactly (buyer_of a b) (seller_of a b)
CrossesExactly Mint a b = a.taking * b.taking ≤ a.making * b.taking + b.making * a.taking
CrossesExactly Merge a b = a.taking * b.making + b.taking * a.making ≤ a.making * b.making

-- Which of the two follows from the other. Prices round down, so two buyers who cross by prices cross in fractions,
-- and for the other kinds it is the other way round.
abbrev pub OneCrossingGives : MatchKind → Terms → Terms → Type 0
OneCrossingGives Complementary a b = CrossesExactly Complementary a b → Crosses Complementary a b
OneCrossingGives Mint a b = Crosses Mint a b → CrossesExactly Mint a b
OneCrossingGives Merge a b = CrossesExactly Merge a b → Crosses Merge a b
