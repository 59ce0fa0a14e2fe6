use Rattle.std.proofs.Common.{◌∙◌, ap}
use Rattle.std.specs.Prelude.{not}
use Rattle.journal_disk.specs.Memory.{MemoryDiskView}
use Rattle.journal_disk.proofs.MemoryCalls.{leaves-sync, stored-sync}
use Rattle.journal_disk.proofs.memory_disk.MemoryDiskDisk.sync.Goals as goal

pub returns-in-Ok-clause-syncs : goal.returns-in-Ok-clause-syncs
returns-in-Ok-clause-syncs c = λ honest.
    let first = ap (λ (m : MemoryDiskView). m.first) c.in-Ok.ensures.ok ∙ ap (λ (m : MemoryDiskView). m.first) c.self.view_is in
    let calls = ap (λ (m : MemoryDiskView). m.calls) c.in-Ok.ensures.ok in
    record {
      leaves = leaves-sync c.args.self.now _ _ _ _ _ first calls (ap (λ (m : MemoryDiskView). m.calls) c.self.view_is);
      stored = stored-sync _ _ _ c.note.new.self.faults _ (ap not c.if-ok.true) calls;
    }

pub returns-in-Ok-2-clause-syncs : goal.returns-in-Ok-2-clause-syncs
returns-in-Ok-2-clause-syncs c = λ honest.
    let first = ap (λ (m : MemoryDiskView). m.first) c.self-2.view_is ∙ (ap (λ (m : MemoryDiskView). m.first) c.in-Ok.ensures.ok ∙ ap (λ (m : MemoryDiskView). m.first) c.self.view_is) in
    let calls = ap (λ (m : MemoryDiskView). m.calls) c.self-2.view_is ∙ ap (λ (m : MemoryDiskView). m.calls) c.in-Ok.ensures.ok in
    record { leaves = leaves-sync c.args.self.now _ _ _ _ _ first calls (ap (λ (m : MemoryDiskView). m.calls) c.self.view_is); stored = tt }
