use Rattle.coverage_law.proofs.Conversions.{conversion-worth}
use Rattle.coverage_law.proofs.laws.conversion_keeps_the_need.Goals as goal

pub returns : goal.returns
returns c = conversion-worth
