use Rattle.std.proofs.Common.{◌∙◌, ap}
use Rattle.journal_disk.specs.Memory.{MemoryDiskView}
use Rattle.journal_disk.proofs.MemoryCalls.{leaves-read}
use Rattle.journal_disk.proofs.memory_disk.MemoryDiskDisk.read.Goals as goal

pub returns-in-Ok-clause-leaves : goal.returns-in-Ok-clause-leaves
returns-in-Ok-clause-leaves c = λ honest.
    leaves-read c.args.self.now _ _ _ _ _ _ _ (ap (λ (m : MemoryDiskView). m.first) c.in-Ok.ensures.ok ∙ ap (λ (m : MemoryDiskView). m.first) c.self.view_is) (ap (λ (m : MemoryDiskView). m.calls) c.in-Ok.ensures.ok) (ap (λ (m : MemoryDiskView). m.calls) c.self.view_is)

pub returns-in-Ok-2-clause-leaves : goal.returns-in-Ok-2-clause-leaves
returns-in-Ok-2-clause-leaves c = λ honest.
    let first = ap (λ (m : MemoryDiskView). m.first) c.self-2.view_is ∙ (ap (λ (m : MemoryDiskView). m.first) c.in-Ok.ensures.ok ∙ ap (λ (m : MemoryDiskView). m.first) c.self.view_is) in
    leaves-read c.args.self.now _ _ _ _ _ _ _ first (ap (λ (m : MemoryDiskView). m.calls) c.self-2.view_is ∙ ap (λ (m : MemoryDiskView). m.calls) c.in-Ok.ensures.ok) (ap (λ (m : MemoryDiskView). m.calls) c.self.view_is)
