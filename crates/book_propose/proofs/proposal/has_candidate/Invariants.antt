use Rattle.std.proofs.Common.{◌≡◌, false, take}
use Rattle.book_propose.specs.Proposals.{has_candidate}
use Rattle.book_propose.proofs.proposal.has_candidate.Given as goal

abbrev pub invariant-loop-i : goal.invariant-loop-i
invariant-loop-i l = has_candidate (take l.i l.snapshot) l.taker ≡ false
