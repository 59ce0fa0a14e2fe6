use Rattle.coverage_law.proofs.Holdings.{taken-within}
use Rattle.coverage_law.proofs.laws.taken_is_within_paid.Goals as goal

pub returns : goal.returns
returns c = taken-within
