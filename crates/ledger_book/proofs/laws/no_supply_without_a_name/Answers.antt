use Rattle.std.proofs.Common.{ap}
use Rattle.std.specs.Prelude.{unwrap_or}
use Rattle.ledger_book.specs.Ledger.{names, supply_at}
use Rattle.ledger_book.proofs.Given.{unnamed}
use Rattle.ledger_book.proofs.laws.no_supply_without_a_name.Goals as goal

pub returns : goal.returns
unfolding names supply_at
returns c = λ l k absent. ap (λ found. unwrap_or found 0) (unnamed l.supplies k absent)
