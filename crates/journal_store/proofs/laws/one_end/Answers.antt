use Rattle.journal_store.proofs.FoundLaws.{one-end}
use Rattle.journal_store.proofs.laws.one_end.Goals as goal

pub returns : goal.returns
returns c = one-end
