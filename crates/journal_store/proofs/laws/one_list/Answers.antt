use Rattle.journal_store.proofs.Unique.{one-list}
use Rattle.journal_store.proofs.laws.one_list.Goals as goal

pub returns : goal.returns
returns c = one-list
