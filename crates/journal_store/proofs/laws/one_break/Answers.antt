use Rattle.journal_store.proofs.FoundLaws.{one-break}
use Rattle.journal_store.proofs.laws.one_break.Goals as goal

pub returns : goal.returns
returns c = one-break
