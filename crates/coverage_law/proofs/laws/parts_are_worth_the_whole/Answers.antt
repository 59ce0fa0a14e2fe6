use Rattle.coverage_law.proofs.Worths.{parts-paid, whole-worth}
use Rattle.coverage_law.proofs.laws.parts_are_worth_the_whole.Goals as goal

pub returns-clause-union : goal.returns-clause-union
returns-clause-union c = parts-paid

pub returns-clause-whole : goal.returns-clause-whole
returns-clause-whole c = whole-worth
