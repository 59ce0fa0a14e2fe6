-- What a match posts, and why it isn't planned.
-- Source: Polymarket CTF Exchange, first published source; the refusals and their order are this project's own.
use Rattle.std.specs.Prelude.{◌≡◌, ℕ, zero, suc, ◌-◌, ⊤, Bool, nat_lt, if◌then◌else◌, ◌||◌, List, [], ◌∷◌, ◌++◌, length, map, take, Option, Some, None, option_map, Result, Ok, Err}
use Rattle.std.specs.List.{flat_map}
use Rattle.collection_keys.specs.Collections.{Pairs}
use Rattle.condition_sets.specs.declared.names.TheConstants.{OPERATOR}
use Rattle.ledger_book.specs.Entries.{held_after}
use Rattle.ledger_book.specs.Postings.{credit, debit}
use Rattle.ledger_book.specs.declared.posting.Posting.{Posting}
use Rattle.match_kinds.specs.Matching.{all_paid_in, all_paid_out, all_taken_in, all_taken_out, got_of, maker_fee, paid_asset, refund_of, taken_asset, taker_fee, taking_by}
use Rattle.match_kinds.specs.declared.part.Part.{Part}
use Rattle.match_kinds.specs.declared.settle.MatchFault.{MatchFault}
use Rattle.match_kinds.specs.declared.settle.MatchFault.TheVariants.{Unfunded, Short, TooLittle, Memory}
use Rattle.match_kinds.specs.declared.settle.MatchSums.{MatchSums}
use Rattle.order_rules.specs.Prices.{taking_of}

-- ---- what is posted

-- a maker pays its fill, and is paid what it takes less its fee
abbrev pub maker_postings : ℕ → Part → List Posting
maker_postings market m = debit m.account (paid_asset market m) m.fill ∷ credit m.account (taken_asset market m) (taking_by m - maker_fee m) ∷ []

-- the fee of each maker, and of the taker, is paid to account 0, each in what that part gets
abbrev pub fee_postings : ℕ → Part → List Part → List Posting
fee_postings market taker makers =
    map (λ m. credit OPERATOR (taken_asset market m) (maker_fee m)) makers ++ credit OPERATOR (taken_asset market taker) (taker_fee taker makers) ∷ []

-- the taker pays its fill; then the makers in their order; then the taker gets its refund and what it got less its fee;
-- and then the fees are paid
abbrev pub match_postings : ℕ → Part → List Part → List Posting
match_postings market taker makers =
    debit taker.account (paid_asset market taker) taker.fill ∷ flat_map (maker_postings market) makers
    ++ credit taker.account (paid_asset market taker) (refund_of taker makers) ∷ credit taker.account (taken_asset market taker) (got_of taker makers - taker_fee taker makers) ∷ fee_postings market taker makers

-- what is answered
abbrev pub sums_of : Part → List Part → MatchSums
sums_of taker makers = record { got = got_of taker makers; fee = taker_fee taker makers; refund = refund_of taker makers }

-- ---- why it isn't planned

-- the first maker, counted from a place on, whose account has less of what it pays than its fill, with what was posted for
-- the makers before it; and what it has
abbrev pub unfunded_from : (ℕ → Pairs → ℕ) → ℕ → ℕ → List Posting → List Part → Option (ℕ × ℕ)
unfunded_from held market place earlier [] = None
unfunded_from held market place earlier (m ∷ ms) =
    if nat_lt (held_after held earlier m.account (paid_asset market m)) m.fill then Some (place, held_after held earlier m.account (paid_asset market m))
    else unfunded_from held market (suc place) (earlier ++ maker_postings market m) ms

-- place 0 is the taker, and the makers are 1, 2 and so on
abbrev pub unfunded : (ℕ → Pairs → ℕ) → ℕ → Part → List Part → Option (ℕ × ℕ)
unfunded held market taker makers =
    if nat_lt (held taker.account (paid_asset market taker)) taker.fill then Some (0, held taker.account (paid_asset market taker))
    else unfunded_from held market 1 [] makers

-- more went out than came in, of what the taker pays or of what it gets
abbrev pub runs_short : Part → List Part → Bool
runs_short taker makers = nat_lt (all_paid_in taker makers) (all_paid_out taker makers) || nat_lt (all_taken_in taker makers) (all_taken_out taker makers)

-- the first place of so many, from one on, at which that is so with the makers up to there
abbrev pub short_from : Part → List Part → ℕ → ℕ → Option ℕ
short_from taker makers place zero = None
short_from taker makers place (suc n) = if runs_short taker (take place makers) then Some place else short_from taker makers (suc place) n

abbrev pub short_place : Part → List Part → Option ℕ
short_place taker makers = short_from taker makers 1 (length makers)

-- the least that the taker has to get, by its limit, and where it gets less: that and what it gets
abbrev pub floor_of : Part → ℕ
floor_of taker = taking_of taker.limit taker.fill

abbrev pub too_little : Part → List Part → Option (ℕ × ℕ)
too_little taker makers = if nat_lt (got_of taker makers) (floor_of taker) then Some (got_of taker makers, floor_of taker) else None

-- the first of the three, in this order
abbrev pub or_else : Option MatchFault → Option MatchFault → Option MatchFault
or_else None other = other
or_else (Some fault) other = Some fault

abbrev pub fault_of : (ℕ → Pairs → ℕ) → ℕ → Part → List Part → Option MatchFault
fault_of held market taker makers =
    or_else (option_map (λ at. Unfunded at.1 at.0) (unfunded held market taker makers))
    (or_else (option_map Short (short_place taker makers)) (option_map (λ little. TooLittle little.1 little.0) (too_little taker makers)))

-- a match is planned where there is none, and isn't by the first alone, want of memory aside
abbrev pub MatchedBy : Option MatchFault → Result MatchSums MatchFault → Type 0
MatchedBy fault (Ok sums) = fault ≡ None
MatchedBy fault (Err Memory) = ⊤
MatchedBy fault (Err other) = fault ≡ Some other
