use Rattle.coverage_law.proofs.Worths.{cash-worth, denominator-some}
use Rattle.coverage_law.proofs.laws.cash_is_worth_the_denominator.Goals as goal

pub returns-clause-cash : goal.returns-clause-cash
returns-clause-cash c = cash-worth

pub returns-clause-some : goal.returns-clause-some
returns-clause-some c = denominator-some
