use Rattle.std.proofs.Common.{◌≡◌, map, take}
use Rattle.book_propose.specs.Candidates.{candidates, ranked}
use Rattle.book_propose.specs.Pricing.{priced}
use Rattle.book_propose.specs.declared.terms.TheConstants.{MAX_MAKERS}
use Rattle.book_propose.proofs.ranking.best_candidates.Given as goal

abbrev pub invariant-loop-i : goal.invariant-loop-i
invariant-loop-i l = l.best.items ≡ map (priced l.taker) (take MAX_MAKERS (ranked l.taker (candidates l.taker (take l.i l.snapshot))))
