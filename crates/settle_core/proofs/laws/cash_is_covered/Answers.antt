use Rattle.settle_core.proofs.Coverage.{cash, cash-fits}
use Rattle.settle_core.proofs.laws.cash_is_covered.Goals as goal

pub returns-clause-vault : goal.returns-clause-vault
returns-clause-vault c = cash

pub returns-clause-limit : goal.returns-clause-limit
returns-clause-limit c = cash-fits
