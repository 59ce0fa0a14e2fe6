use Rattle.coverage_law.specs.Worth.{worth}
use Rattle.settle_core.specs.Coverage.{results}
use Rattle.exchange_top.proofs.laws.coverage_holds.Goals as goal

pub returns-clause-held : goal.returns-clause-held
returns-clause-held c = λ limits history outcome positions legal entries. c.holdings_are_covered.ensures.held limits history (worth (results history) outcome) positions legal entries
