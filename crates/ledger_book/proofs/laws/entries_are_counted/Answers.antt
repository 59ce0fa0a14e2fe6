use Rattle.ledger_book.proofs.Mixed.{counted_whole}
use Rattle.ledger_book.proofs.laws.entries_are_counted.Goals as goal

pub returns : goal.returns
returns c = counted_whole
