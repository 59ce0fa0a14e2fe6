-- The orders of a match as its parts, and what the match posts. An order that was never placed has no part: such a match is
-- refused.
-- Source: Polymarket CTF Exchange, first published source.
use Rattle.std.specs.Prelude.{ℕ, List, [], ◌∷◌, slice_get, Option, Some, None, option_map}
use Rattle.std.specs.List.{flat_map}
use Rattle.ledger_book.specs.declared.posting.Posting.{Posting}
use Rattle.match_kinds.specs.Settling.{match_postings, short_place, sums_of, too_little}
use Rattle.match_kinds.specs.declared.part.Part.{Part}
use Rattle.match_kinds.specs.declared.settle.MatchSums.{MatchSums}
use Rattle.order_table.specs.declared.order.Placed.{Placed}

-- an order's part in a match, with its fill
abbrev pub part_of : Placed → ℕ → Part
part_of order fill = record { account = order.account; token = order.token; limit = order.limit; rate = order.rate; fill = fill }

-- the parts of some orders, each named by its number with its fill, among those that were placed
abbrev pub part_by : Option Placed → ℕ → List Part
part_by None fill = []
part_by (Some order) fill = part_of order fill ∷ []

abbrev pub parts_in : List Placed → List (ℕ × ℕ) → List Part
parts_in placed named = flat_map (λ n. part_by (slice_get placed n.0) n.1) named

-- what a match of a taker with makers posts, in the market of the taker
abbrev pub matched_in : Option Placed → ℕ → List Part → List Posting
matched_in None fill makers = []
matched_in (Some taker) fill makers = match_postings taker.market (part_of taker fill) makers

-- what it gives the taker
abbrev pub sums_in : Option Placed → ℕ → List Part → Option MatchSums
sums_in taker fill makers = option_map (λ order. sums_of (part_of order fill) makers) taker

-- the first maker with which more goes out of the exchange than came in
abbrev pub short_in : Option Placed → ℕ → List Part → Option ℕ
short_in None fill makers = None
short_in (Some taker) fill makers = short_place (part_of taker fill) makers

-- what the taker gets and the least that its limit wants, where that is more
abbrev pub little_in : Option Placed → ℕ → List Part → Option (ℕ × ℕ)
little_in None fill makers = None
little_in (Some taker) fill makers = too_little (part_of taker fill) makers
