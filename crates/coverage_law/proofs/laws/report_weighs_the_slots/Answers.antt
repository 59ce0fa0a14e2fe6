use Rattle.coverage_law.proofs.Worths.{reported-denominator, reported-worth, with_slot-lawful}
use Rattle.coverage_law.proofs.laws.report_weighs_the_slots.Goals as goal

pub returns-clause-worth : goal.returns-clause-worth
returns-clause-worth c = reported-worth

pub returns-clause-denominator : goal.returns-clause-denominator
returns-clause-denominator c = reported-denominator

pub returns-clause-lawful : goal.returns-clause-lawful
returns-clause-lawful c = with_slot-lawful
