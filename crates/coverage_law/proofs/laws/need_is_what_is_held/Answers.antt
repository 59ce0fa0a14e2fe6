use Rattle.coverage_law.proofs.Holdings.{held-need}
use Rattle.coverage_law.proofs.laws.need_is_what_is_held.Goals as goal

pub returns : goal.returns
returns c = held-need
