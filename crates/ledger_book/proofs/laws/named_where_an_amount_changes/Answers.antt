use Rattle.ledger_book.proofs.Fresh.{has-new_names, new_names-fresh, ascending-new_names, length-new_names}
use Rattle.ledger_book.proofs.laws.named_where_an_amount_changes.Goals as goal

pub returns : goal.returns
returns c = record { among = has-new_names; fresh = new_names-fresh; ascending = ascending-new_names; few = length-new_names }
