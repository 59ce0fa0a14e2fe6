use Rattle.std.proofs.Common.{sym}
use Rattle.collection_keys.proofs.Storing.{stored-without}
use Rattle.collection_keys.proofs.collection.Collection.without.Goals as goal

pub invariant_of-result-2 : goal.invariant_of-result-2
invariant_of-result-2 c =
    (stored-without c.args.self.now c.self.inside.pairs c.take_out.new.pairs c.self.inside.len c.in-Some.place c.args.c c.self.invariant c.self.view_is
    (sym c.in-Some.ensures) c.take_out.ensures).0

pub returns : goal.returns
returns c =
    (stored-without c.args.self.now c.self.inside.pairs c.take_out.new.pairs c.self.inside.len c.in-Some.place c.args.c c.self.invariant c.self.view_is
    (sym c.in-Some.ensures) c.take_out.ensures).1
