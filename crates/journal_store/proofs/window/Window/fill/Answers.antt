use Rattle.std.proofs.Common.{ap, length, refl, ◌∙◌}
use Rattle.std.proofs.lemmas.List.{with_items_is}
use Rattle.journal_store.proofs.Windows.{filled}
use Rattle.journal_store.proofs.window.Window.fill.Goals as goal

pub returns-in-Ok-clause-front : goal.returns-in-Ok-clause-front
returns-in-Ok-clause-front g c =
    λ honest.
    let reads = c.in-Ok.ensures.bytes honest in
    let long = ap length c.deref_mut.ensures.value ∙ c.self.invariant.long in
    let same = with_items_is c.self.inside.buffer c.read-read.new.into (c.read-read.auto.into ∙ c.deref_mut.ensures.len) in
    filled (g.D.Disk.drive c.args.disk.now).bytes _ c.read-read.new.into c.deref_mut.result.now c.self.inside.place c.in-Ok.len _ long refl reads.0 reads.1 same
