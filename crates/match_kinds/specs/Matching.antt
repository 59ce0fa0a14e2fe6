-- The parts of a match, what goes through the exchange, and what is charged.
-- Source: Polymarket CTF Exchange, first published source: complementary, mint and merge. The fees are this project's own.
use Rattle.std.specs.Prelude.{◌≢◌, ℕ, ◌+◌, ◌-◌, ◌≤◌, List, sum_by, Option, Some, None}
use Rattle.collection_keys.specs.Collections.{Pairs, root, joined}
use Rattle.fee_rules.specs.Fees.{fee_of}
use Rattle.fee_rules.specs.declared.fees.TheConstants.{MAX_RATE}
use Rattle.match_kinds.specs.declared.part.Part.{Part}
use Rattle.order_rules.specs.Kinds.{kind_of}
use Rattle.order_rules.specs.Prices.{price_of, price_by, taking_of}
use Rattle.order_rules.specs.declared.kinds.MatchKind.{MatchKind}
use Rattle.order_rules.specs.declared.kinds.MatchKind.TheVariants.{Complementary, Mint, Merge}
use Rattle.order_rules.specs.declared.side.Side.{Side}
use Rattle.order_rules.specs.declared.side.Side.TheVariants.{Buy, Sell}
use Rattle.order_rules.specs.declared.token.Token.{Token}
use Rattle.order_rules.specs.declared.token.Token.TheVariants.{Yes, No}

-- ---- assets

-- the shares of a market's token: the condition's first slot, or its second
abbrev pub token_of : ℕ → Token → Pairs
token_of market Yes = joined root market 1
token_of market No = joined root market 2

-- what a part pays, and what it gets: a buyer pays cash for its token, a seller its token for cash
abbrev pub pays_in : ℕ → Side → Token → Pairs
pays_in market Buy token = root
pays_in market Sell token = token_of market token

abbrev pub gets_in : ℕ → Side → Token → Pairs
gets_in market Buy token = token_of market token
gets_in market Sell token = root

abbrev pub paid_asset : ℕ → Part → Pairs
paid_asset market part = pays_in market part.limit.side part.token

abbrev pub taken_asset : ℕ → Part → Pairs
taken_asset market part = gets_in market part.limit.side part.token

-- ---- makers

-- how a maker is matched with the taker
abbrev pub kind_with : Part → Part → Option MatchKind
kind_with taker maker = kind_of taker.limit.side taker.token maker.limit.side maker.token

-- what a part gets for its fill, before its fee
abbrev pub taking_by : Part → ℕ
taking_by part = taking_of part.limit part.fill

-- A part that may be matched: its fill is some of its limit, and its rate is one.
pub record IsPart (part : Part) : Type 0 where
  pub some : 1 ≤ part.fill
  pub within : part.fill ≤ part.limit.making
  pub rate : part.rate ≤ MAX_RATE

-- A maker that may be matched with the taker: a part of another account that has a kind with it.
pub record IsMaker (taker maker : Part) : Type 0 where
  pub part : IsPart maker
  pub kind : kind_with taker maker ≢ None
  pub other : maker.account ≢ taker.account

-- ---- what goes through the exchange

-- of one maker: what comes in and what goes out, of the asset that the taker pays and of the one that it gets
pub record Flow : Type 0 where
  pub paid_in : ℕ
  pub paid_out : ℕ
  pub taken_in : ℕ
  pub taken_out : ℕ

-- A complementary maker gives what the taker wants for what the taker pays. A mint makes pairs of cash, of which the taker
-- gets the one token and the maker the other; a merge makes cash of pairs, of which each brings one token.
abbrev pub flow_by : Option MatchKind → ℕ → ℕ → Flow
flow_by (Some Complementary) fill taking = record { paid_in = 0; paid_out = taking; taken_in = fill; taken_out = 0 }
flow_by (Some Mint) fill taking = record { paid_in = fill; paid_out = taking; taken_in = taking; taken_out = 0 }
flow_by (Some Merge) fill taking = record { paid_in = 0; paid_out = fill; taken_in = fill; taken_out = taking }
flow_by None fill taking = record { paid_in = 0; paid_out = 0; taken_in = 0; taken_out = 0 }

abbrev pub flow_of : Part → Part → Flow
flow_of taker maker = flow_by (kind_with taker maker) maker.fill (taking_by maker)

-- over some makers; the taker's own fill comes in first
abbrev pub all_paid_in : Part → List Part → ℕ
all_paid_in taker makers = taker.fill + sum_by (λ m. (flow_of taker m).paid_in) makers

abbrev pub all_paid_out : Part → List Part → ℕ
all_paid_out taker makers = sum_by (λ m. (flow_of taker m).paid_out) makers

abbrev pub all_taken_in : Part → List Part → ℕ
all_taken_in taker makers = sum_by (λ m. (flow_of taker m).taken_in) makers

abbrev pub all_taken_out : Part → List Part → ℕ
all_taken_out taker makers = sum_by (λ m. (flow_of taker m).taken_out) makers

-- what is left of each in the end: the taker's refund, and what the taker gets before its fee
abbrev pub refund_of : Part → List Part → ℕ
refund_of taker makers = all_paid_in taker makers - all_paid_out taker makers

abbrev pub got_of : Part → List Part → ℕ
got_of taker makers = all_taken_in taker makers - all_taken_out taker makers

-- ---- pairs of tokens

-- the pairs that a maker of a mint makes of cash, and those that a maker of a merge makes into cash
abbrev pub minted_by : Option MatchKind → ℕ → ℕ
minted_by (Some Complementary) taking = 0
minted_by (Some Mint) taking = taking
minted_by (Some Merge) taking = 0
minted_by None taking = 0

abbrev pub merged_by : Option MatchKind → ℕ → ℕ
merged_by (Some Complementary) fill = 0
merged_by (Some Mint) fill = 0
merged_by (Some Merge) fill = fill
merged_by None fill = 0

-- over some makers
abbrev pub pairs_minted : Part → List Part → ℕ
pairs_minted taker makers = sum_by (λ m. minted_by (kind_with taker m) (taking_by m)) makers

abbrev pub pairs_merged : Part → List Part → ℕ
pairs_merged taker makers = sum_by (λ m. merged_by (kind_with taker m) m.fill) makers

-- ---- fees

-- how many tokens change hands where a side pays so much for so much
abbrev pub tokens_by : Side → ℕ → ℕ → ℕ
tokens_by Buy paid got = got
tokens_by Sell paid got = paid

-- a maker is charged at its own price
abbrev pub maker_fee : Part → ℕ
maker_fee m = fee_of m.limit.side m.rate (tokens_by m.limit.side m.fill (taking_by m)) (price_of m.limit)

-- the taker at what it paid, its fill less the refund, for what it got
abbrev pub made_of : Part → List Part → ℕ
made_of taker makers = taker.fill - refund_of taker makers

abbrev pub taker_fee : Part → List Part → ℕ
taker_fee taker makers =
    fee_of taker.limit.side taker.rate (tokens_by taker.limit.side (made_of taker makers) (got_of taker makers)) (price_by taker.limit.side (made_of taker makers) (got_of taker makers))
