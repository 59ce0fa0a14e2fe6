use Rattle.journal_store.proofs.Agreeing.{before-break}
use Rattle.journal_store.proofs.laws.followed_before_the_break.Goals as goal

pub returns : goal.returns
returns c = before-break
