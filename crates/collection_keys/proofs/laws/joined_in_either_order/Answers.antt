use Rattle.collection_keys.proofs.Joining.{joined-joined}
use Rattle.collection_keys.proofs.laws.joined_in_either_order.Goals as goal

pub returns : goal.returns
returns c = joined-joined
