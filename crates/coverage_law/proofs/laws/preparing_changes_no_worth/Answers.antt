use Rattle.coverage_law.proofs.Worths.{prepared-denominator, prepared-worth}
use Rattle.coverage_law.proofs.laws.preparing_changes_no_worth.Goals as goal

pub returns-clause-worth : goal.returns-clause-worth
returns-clause-worth c = prepared-worth

pub returns-clause-denominator : goal.returns-clause-denominator
returns-clause-denominator c = prepared-denominator
