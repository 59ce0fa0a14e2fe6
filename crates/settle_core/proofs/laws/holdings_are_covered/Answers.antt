use Rattle.settle_core.proofs.Coverage.{can-pay, held, possible}
use Rattle.settle_core.proofs.laws.holdings_are_covered.Goals as goal

pub returns-clause-covered : goal.returns-clause-covered
returns-clause-covered c = can-pay

pub returns-clause-possible : goal.returns-clause-possible
returns-clause-possible c = possible

pub returns-clause-held : goal.returns-clause-held
returns-clause-held c = held
