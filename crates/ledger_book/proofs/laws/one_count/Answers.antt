use Rattle.ledger_book.proofs.Counted.{one_number}
use Rattle.ledger_book.proofs.laws.one_count.Goals as goal

pub returns : goal.returns
returns c = one_number
