-- Which orders can be matched, and how.
-- Source: Polymarket CTF Exchange, first published source: complementary, mint and merge.
use Rattle.std.specs.Prelude.{⊤, Option, Some, None}
use Rattle.order_rules.specs.declared.kinds.MatchKind.{MatchKind}
use Rattle.order_rules.specs.declared.kinds.MatchKind.TheVariants.{Complementary, Mint, Merge}
use Rattle.order_rules.specs.declared.side.Side.{Side}
use Rattle.order_rules.specs.declared.side.Side.TheVariants.{Buy, Sell}
use Rattle.order_rules.specs.declared.token.Token.{Token}
use Rattle.order_rules.specs.declared.token.Token.TheVariants.{Yes, No}

-- a buyer and a seller of one token
abbrev pub if_same : Token → Token → Option MatchKind
if_same Yes Yes = Some Complementary
if_same Yes No = None
if_same No Yes = None
if_same No No = Some Complementary

-- two buyers, or two sellers, of the two tokens
abbrev pub if_other : MatchKind → Token → Token → Option MatchKind
if_other kind Yes Yes = None
if_other kind Yes No = Some kind
if_other kind No Yes = Some kind
if_other kind No No = None

-- how orders of these sides and tokens are matched
abbrev pub kind_of : Side → Token → Side → Token → Option MatchKind
kind_of Buy token Sell other = if_same token other
kind_of Sell token Buy other = if_same token other
kind_of Buy token Buy other = if_other Mint token other
kind_of Sell token Sell other = if_other Merge token other

-- the sides of two orders are those of a kind of match
abbrev pub AreSidesOf : MatchKind → Side → Side → Type 0
AreSidesOf Complementary Buy Sell = ⊤
AreSidesOf Complementary Sell Buy = ⊤
AreSidesOf Mint Buy Buy = ⊤
AreSidesOf Merge Sell Sell = ⊤
AreSidesOf kind side other = ⊥
