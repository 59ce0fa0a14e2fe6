-- Which offers can be matched with a taker, and which of two comes first.
-- Source: Polymarket CTF Exchange, first published source, of crossing by prices; the rest is this project's own.
use Rattle.std.specs.Prelude.{◌==◌, ℕ, ◌+◌, ◌-◌, ◌*◌, ◌&&◌, ◌||◌, Bool, false, not, nat_le, nat_lt, if◌then◌else◌, List, [], ◌∷◌, filter, fold, is_some, Option, Some, None, option_and_then}
use Rattle.book_shelves.specs.declared.offer.Offer.{Offer}
use Rattle.order_rules.specs.Crossing.{buyer_of, seller_of}
use Rattle.order_rules.specs.Fits.{fit_of}
use Rattle.order_rules.specs.Kinds.{kind_of}
use Rattle.order_rules.specs.Orders.{Terms}
use Rattle.order_rules.specs.Prices.{price_of}
use Rattle.order_rules.specs.declared.fits.Fitted.{Fitted}
use Rattle.order_rules.specs.declared.kinds.MatchKind.{MatchKind}
use Rattle.order_rules.specs.declared.kinds.MatchKind.TheVariants.{Complementary, Mint, Merge}
use Rattle.order_rules.specs.declared.prices.TheConstants.{ONE}
use Rattle.order_rules.specs.declared.side.Side.{Side}
use Rattle.order_rules.specs.declared.side.Side.TheVariants.{Buy, Sell}

-- ---- crossing, as tests

-- by prices: a buyer pays at least what the seller asks, two buyers at least ONE for a pair of tokens, and two sellers ask at
-- most ONE for a pair
abbrev pub is_crossing : MatchKind → Terms → Terms → Bool
is_crossing Complementary a b = nat_le (price_of (seller_of a b)) (price_of (buyer_of a b))
is_crossing Mint a b = nat_le ONE (price_of a + price_of b)
is_crossing Merge a b = nat_le (price_of a + price_of b) ONE

-- and in exact fractions, with nothing rounded
abbrev pub buys_exactly : Terms → Terms → Bool
buys_exactly buyer seller = nat_le (seller.taking * buyer.taking) (buyer.making * seller.making)

abbrev pub is_crossing_exactly : MatchKind → Terms → Terms → Bool
is_crossing_exactly Complementary a b = buys_exactly (buyer_of a b) (seller_of a b)
is_crossing_exactly Mint a b = nat_le (a.taking * b.taking) (a.making * b.taking + b.making * a.taking)
is_crossing_exactly Merge a b = nat_le (a.taking * b.making + b.taking * a.making) (a.making * b.making)

-- ---- pairs

-- how two offers can be matched
abbrev pub kind_with : Offer → Offer → Option MatchKind
kind_with taker maker = kind_of taker.limit.side taker.token maker.limit.side maker.token

-- how much of a maker fits into what is left of a taker
abbrev pub fit_with : Offer → Offer → ℕ → Option Fitted
fit_with taker maker left = option_and_then (λ kind. fit_of kind maker.limit left maker.rest) (kind_with taker maker)

-- the two cross, by prices and in exact fractions
abbrev pub crosses_by : Option MatchKind → Terms → Terms → Bool
crosses_by None a b = false
crosses_by (Some kind) a b = is_crossing kind a b && is_crossing_exactly kind a b

-- A pair of offers is a candidate where they are of different accounts, have a kind, cross, and the maker fits into the whole
-- rest of the taker.
abbrev pub is_candidate : Offer → Offer → Bool
is_candidate taker maker =
    not (maker.account == taker.account) && (crosses_by (kind_with taker maker) taker.limit maker.limit && is_some (fit_with taker maker taker.rest))

-- the candidates of a taker among some offers, in their order
abbrev pub candidates : Offer → List Offer → List Offer
candidates taker offers = filter (is_candidate taker) offers

-- ---- their order

-- what a taker pays or gets for a token with a maker: the maker's price, or what is left of ONE
abbrev pub effective_by : Option MatchKind → ℕ → ℕ
effective_by (Some Complementary) price = price
effective_by (Some Mint) price = ONE - price
effective_by (Some Merge) price = ONE - price
effective_by None price = price

abbrev pub effective : Offer → Offer → ℕ
effective taker maker = effective_by (kind_with taker maker) (price_of maker.limit)

-- the lower price comes first for a buyer, and the higher one for a seller; at one price the lower number
abbrev pub comes_first : Side → ℕ → ℕ → ℕ → ℕ → Bool
comes_first Buy price number other_price other_number = nat_lt price other_price || (price == other_price && nat_lt number other_number)
comes_first Sell price number other_price other_number = nat_lt other_price price || (price == other_price && nat_lt number other_number)

abbrev pub is_before : Offer → Offer → Offer → Bool
is_before taker a b = comes_first taker.limit.side (effective taker a) a.order (effective taker b) b.order

-- an offer among others that stand in this order
abbrev pub insert : Offer → Offer → List Offer → List Offer
insert taker offer [] = offer ∷ []
insert taker offer (o ∷ os) = if is_before taker offer o then offer ∷ o ∷ os else o ∷ insert taker offer os

-- offers in this order
abbrev pub ranked : Offer → List Offer → List Offer
ranked taker offers = fold (λ so_far offer. insert taker offer so_far) [] offers
