use Rattle.journal_store.proofs.FoundLaws.{followed}
use Rattle.journal_store.proofs.laws.followed_by_the_rest.Goals as goal

pub returns : goal.returns
returns c = followed
