-- The calls of an object in memory that are to fail.
use Rattle.std.specs.Prelude.{ℕ, List}
use Rattle.outside_faults.specs.Faults.{raised}

-- the numbers of the calls that fail, the first call being number 1, and how many calls were made
pub record FailingCallsView : Type 0 where
  pub failing : List ℕ
  pub made : ℕ

-- the same calls fail, and one more was made
abbrev pub raised_calls : FailingCallsView → FailingCallsView
raised_calls s = record { failing = s.failing; made = raised s.made }
