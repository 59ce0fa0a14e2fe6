use Rattle.std.proofs.Common.{◌∙◌, ap}
use Rattle.journal_disk.specs.Memory.{MemoryDiskView}
use Rattle.journal_disk.proofs.memory_disk.MemoryDisk.images.Goals as goal

pub returns-clause-contents : goal.returns-clause-contents
returns-clause-contents c =
    let first = c.deref.ensures.value ∙ ap (λ (m : MemoryDiskView). m.first) c.self.view_is in
    let calls = c.deref-2.ensures.value ∙ ap (λ (m : MemoryDiskView). m.calls) c.self.view_is in
    rw (← first, ← calls) c.images.ensures.contents
