use Rattle.std.proofs.Common.{rules}
use Rattle.collection_keys.proofs.Sameness.{told_same}
use Rattle.collection_keys.proofs.comparing.CollectionPartialEq.eq.Goals as goal

pub returns-clause-same : goal.returns-clause-same
returns-clause-same c = told_same c.args.self.now c.args.other.now _ (search rules)
