use Rattle.std.proofs.Common.{◌+◌, ◌≤◌, length}
use Rattle.journal_store.proofs.Cutting.{HasFront}
use Rattle.journal_store.proofs.payload.count_payloads.Given as goal

abbrev pub invariant-loop-rest : goal.invariant-loop-rest
invariant-loop-rest l = record { front : HasFront l.count l.bytes l.rest; few : l.count + length l.rest ≤ length l.bytes }

abbrev pub decreases-loop-rest : goal.decreases-loop-rest
decreases-loop-rest l = length l.rest
