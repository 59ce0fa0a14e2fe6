use Rattle.std.proofs.Common.{rules, take}
use Rattle.journal_disk.specs.Images.{IsTorn}
use Rattle.journal_disk.proofs.Fronts.{front-torn}
use Rattle.journal_disk.proofs.images.torn_of_length.Goals as goal

pub returns-clause-all : goal.returns-clause-all
returns-clause-all c =
    let front : IsTorn c.args.at c.args.count c.args.before.now (take c.args.len c.args.whole.now) = front-torn c.args.at c.args.count c.args.len c.args.before.now c.args.whole.now c.requires.whole c.requires.at_least c.requires.at_most in
    search (rules, front)
