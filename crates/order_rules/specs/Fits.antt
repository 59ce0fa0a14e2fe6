-- How much of a maker's order fits into what is left of a taker's. This project's own.
use Rattle.std.specs.Prelude.{ℕ, ◌-◌, ◌*◌, ◌/◌, ◌&&◌, Bool, true, min, nat_le, nat_lt, if◌then◌else◌, Option, Some, None}
use Rattle.order_rules.specs.declared.fits.Fitted.{Fitted}
use Rattle.order_rules.specs.declared.kinds.MatchKind.{MatchKind}
use Rattle.order_rules.specs.declared.kinds.MatchKind.TheVariants.{Complementary, Mint, Merge}
use Rattle.order_rules.specs.Orders.{Terms}
use Rattle.order_rules.specs.Prices.{taking_of}

-- the most that the maker can fill of its rest, where so much of the taker's making is left
abbrev pub fill_of : MatchKind → Terms → ℕ → ℕ → ℕ
fill_of Complementary maker left rest = min rest (left * maker.making / maker.taking)
fill_of Mint maker left rest = min rest (left * maker.making / (maker.taking - maker.making))
fill_of Merge maker left rest = min rest left

-- what a fill of the maker takes of the taker's making
abbrev pub spent_of : MatchKind → Terms → ℕ → ℕ
spent_of Complementary maker fill = taking_of maker fill
spent_of Mint maker fill = taking_of maker fill - fill
spent_of Merge maker fill = fill

-- a maker mints only where it takes more tokens than it pays cash
abbrev pub can_fit : MatchKind → Terms → Bool
can_fit Complementary maker = true
can_fit Mint maker = nat_lt maker.making maker.taking
can_fit Merge maker = true

abbrev pub fitted_by : MatchKind → Terms → ℕ → Fitted
fitted_by kind maker fill = record { fill = fill; taking = taking_of maker fill; spent = spent_of kind maker fill }

-- each of the fill, what it takes and what is spent is at least 1
abbrev pub is_fitted : Fitted → Bool
is_fitted f = nat_le 1 f.fill && (nat_le 1 f.taking && nat_le 1 f.spent)

abbrev pub if_fitted : Fitted → Option Fitted
if_fitted f = if is_fitted f then Some f else None

-- the fit of a maker, or none where it doesn't fit
abbrev pub fit_of : MatchKind → Terms → ℕ → ℕ → Option Fitted
fit_of kind maker left rest = if can_fit kind maker then if_fitted (fitted_by kind maker (fill_of kind maker left rest)) else None
