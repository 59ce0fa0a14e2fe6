use Rattle.std.proofs.Common.{sym, subst}
use Rattle.settle_core.specs.Legal.{IsPlannable}
use Rattle.ledger_lock.proofs.Ranges.{match-plannable}
use Rattle.ledger_lock.proofs.house.House.carry_out.Goals as goal

pub act-requires : goal.act-requires
act-requires c = subst IsPlannable (sym c.in-Ok.ensures) (match-plannable c.args.terms.now c.requires.terms c.requires.numbers)
