use Rattle.collection_keys.proofs.Sameness.{same_collection_Decides, collection_cmp_Equal}
use Rattle.collection_keys.proofs.laws.same_exactly_where_equal.Goals as goal

pub returns-clause-same : goal.returns-clause-same
returns-clause-same c = same_collection_Decides

pub returns-clause-tied : goal.returns-clause-tied
returns-clause-tied c = collection_cmp_Equal
