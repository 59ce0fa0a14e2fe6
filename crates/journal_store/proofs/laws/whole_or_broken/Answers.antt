use Rattle.journal_store.proofs.FoundLaws.{whole-or-broken}
use Rattle.journal_store.proofs.laws.whole_or_broken.Goals as goal

pub returns : goal.returns
returns c = whole-or-broken
