-- What orders get in a history: none is filled above what it makes, and none receives less than its limit.
-- This project's own statement.
use Rattle.std.specs.Prelude.{◌≡◌, ℕ, ◌≤◌, All, List, [], ◌∷◌, map, take, slice_get, Option, Some, None}
use Rattle.coverage_law.specs.Fairness.{Fill, IsAtLimit}
use Rattle.command_words.specs.declared.act.Act.{Act}
use Rattle.command_words.specs.declared.command.Command.{Command}
use Rattle.command_words.specs.declared.command.Command.TheVariants.{Match}
use Rattle.match_kinds.specs.Matching.{got_of, taking_by}
use Rattle.match_kinds.specs.declared.part.Part.{Part}
use Rattle.order_table.specs.declared.order.Placed.{Placed}
use Rattle.settle_core.specs.Matches.{part_of, parts_in}
use Rattle.settle_core.specs.Orders.{filled, placed}

-- the fill of a part that received so much
abbrev pub fill_of : Part → ℕ → Fill
fill_of part received = record { making = part.limit.making; taking = part.limit.taking; filled = part.fill; received = received }

-- the fills of a match: its taker gets what is left in the exchange, and each maker what its limit gives
abbrev pub fills_in : Option Placed → ℕ → List Part → List Fill
fills_in None fill makers = []
fills_in (Some taker) fill makers = fill_of (part_of taker fill) (got_of (part_of taker fill) makers) ∷ map (λ m. fill_of m (taking_by m)) makers

abbrev pub fills_by : List Placed → Command → List Fill
fills_by orders (Match taker fill makers) = fills_in (slice_get orders taker) fill (parts_in orders makers)
fills_by orders command = []

-- no order is overfilled, and each fill of each act received, before its fee, no less than the limit of its order
pub record IsFair (history : List Act) : Type 0 where
  pub within : (number : ℕ) (order : Placed) → slice_get (placed history) number ≡ Some order → filled history number ≤ order.limit.making
  pub at_limit : (place : ℕ) (act : Act) → slice_get history place ≡ Some act → All IsAtLimit (fills_by (placed (take place history)) act.command)
