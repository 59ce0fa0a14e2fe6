-- What contracts see of a source or a sink in memory.
use Rattle.std.specs.Prelude.{ℕ, List}
use Rattle.outside_faults.specs.Script.{FailingCallsView}

-- the bytes left, or those written, how often a call failed, the most bytes of one call, and the calls that are to fail
pub record MemoryBytesView : Type 0 where
  pub bytes : List ℕ
  pub faults : ℕ
  pub piece : ℕ
  pub script : FailingCallsView
