use Rattle.std.proofs.Common.{◌∙◌, ap, sym, subst, length}
use Rattle.journal_disk.specs.Images.{IsTorn}
use Rattle.journal_disk.specs.Laws.{torn-itself}
use Rattle.journal_disk.specs.Memory.{MemoryDiskView, drive_of}
use Rattle.journal_disk.proofs.MemoryCalls.{changes-same, same-contents}
use Rattle.journal_disk.proofs.memory_disk.MemoryDiskDisk.write_at.Goals as goal

pub returns-in-Err-clause-writes : goal.returns-in-Err-clause-writes
returns-in-Err-clause-writes c = λ honest.
    let part = IsTorn c.args.at (length c.args.bytes.now) in
    let first = ap (λ (m : MemoryDiskView). m.first) c.self-2.view_is ∙ (ap (λ (m : MemoryDiskView). m.first) c.in-Err.ensures.err ∙ ap (λ (m : MemoryDiskView). m.first) c.self.view_is) in
    let calls = ap (λ (m : MemoryDiskView). m.calls) c.self-2.view_is ∙ (ap (λ (m : MemoryDiskView). m.calls) c.in-Err.ensures.err ∙ ap (λ (m : MemoryDiskView). m.calls) c.self.view_is) in
    record {
      changes = changes-same part c.args.self.now _ _ _ (torn-itself c.args.at (length c.args.bytes.now)) first calls;
      bytes = subst (part (drive_of c.args.self.now).bytes) (sym (same-contents c.args.self.now _ _ first calls)) (torn-itself c.args.at (length c.args.bytes.now) (drive_of c.args.self.now).bytes);
    }
