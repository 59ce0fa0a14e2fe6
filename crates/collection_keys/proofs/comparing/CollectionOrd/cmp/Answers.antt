use Rattle.std.proofs.Common.{rules}
use Rattle.collection_keys.proofs.Sameness.{told_tied}
use Rattle.collection_keys.proofs.comparing.CollectionOrd.cmp.Goals as goal

pub returns-clause-tied : goal.returns-clause-tied
returns-clause-tied c = told_tied c.args.self.now c.args.other.now _ (search rules)
