use Rattle.std.proofs.Common.{◌≡◌, ℕ, ◌<◌, Some}
use Rattle.event_table.specs.Events.{question_in}
use Rattle.event_table.proofs.events.place_in.Given as goal

abbrev pub invariant-loop-e : goal.invariant-loop-e
invariant-loop-e l = (k place : ℕ) → k < l.e → question_in l.events k place ≡ Some l.c → ⊥
