use Rattle.std.proofs.Common.{◌∙◌, ap, sym, subst}
use Rattle.journal_disk.specs.Images.{IsCut}
use Rattle.journal_disk.specs.Laws.{cut-itself}
use Rattle.journal_disk.specs.Memory.{MemoryDiskView, drive_of}
use Rattle.journal_disk.proofs.MemoryCalls.{changes-same, same-contents}
use Rattle.journal_disk.proofs.memory_disk.MemoryDiskDisk.cut.Goals as goal

pub returns-in-Err-clause-cuts : goal.returns-in-Err-clause-cuts
returns-in-Err-clause-cuts c = λ honest.
    let part = IsCut c.args.len in
    let first = ap (λ (m : MemoryDiskView). m.first) c.self-2.view_is ∙ (ap (λ (m : MemoryDiskView). m.first) c.in-Err.ensures.err ∙ ap (λ (m : MemoryDiskView). m.first) c.self.view_is) in
    let calls = ap (λ (m : MemoryDiskView). m.calls) c.self-2.view_is ∙ (ap (λ (m : MemoryDiskView). m.calls) c.in-Err.ensures.err ∙ ap (λ (m : MemoryDiskView). m.calls) c.self.view_is) in
    record {
      changes = changes-same part c.args.self.now _ _ _ (cut-itself c.args.len) first calls;
      bytes = subst (part (drive_of c.args.self.now).bytes) (sym (same-contents c.args.self.now _ _ first calls)) (cut-itself c.args.len (drive_of c.args.self.now).bytes);
    }
