use Rattle.journal_store.proofs.Agreeing.{one-follows}
use Rattle.journal_store.proofs.laws.readings_agree.Goals as goal

pub returns : goal.returns
returns c = one-follows
