use Rattle.ledger_book.specs.Naming.{new_names}
use Rattle.ledger_book.proofs.Fresh.{new_names-fresh, apart-append}
use Rattle.ledger_book.proofs.laws.each_has_one_name.Goals as goal

pub returns : goal.returns
returns c = λ old ps apart. let fresh = new_names-fresh old ps in apart-append old (new_names old ps) apart fresh.once fresh.absent
