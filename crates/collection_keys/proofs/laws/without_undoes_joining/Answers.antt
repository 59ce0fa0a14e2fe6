use Rattle.collection_keys.proofs.Joining.{without-joined}
use Rattle.collection_keys.proofs.laws.without_undoes_joining.Goals as goal

pub returns : goal.returns
returns c = without-joined
