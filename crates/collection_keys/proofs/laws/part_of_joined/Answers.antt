use Rattle.collection_keys.proofs.Joining.{part-joined_same, part-joined_other}
use Rattle.collection_keys.proofs.laws.part_of_joined.Goals as goal

pub returns-clause-same : goal.returns-clause-same
returns-clause-same c = part-joined_same

pub returns-clause-other : goal.returns-clause-other
returns-clause-other c = part-joined_other
