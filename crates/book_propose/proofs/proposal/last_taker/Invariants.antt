use Rattle.std.proofs.Common.{◌≡◌, None, drop}
use Rattle.book_propose.specs.Proposals.{last_taker}
use Rattle.book_propose.proofs.proposal.last_taker.Given as goal

abbrev pub invariant-loop-i : goal.invariant-loop-i
invariant-loop-i l = last_taker l.snapshot (drop l.i l.snapshot) ≡ None
