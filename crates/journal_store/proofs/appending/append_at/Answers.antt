use Rattle.std.proofs.Common.{ℕ, ◌+◌, List, length, ◌∙◌, subst, Ok}
use Rattle.outside_faults.specs.declared.fault_count.Failed.{Failed}
use Rattle.journal_disk.specs.Images.{IsTorn, overlaid}
use Rattle.journal_disk.specs.Steps.{Keeps}
use Rattle.journal_store.proofs.AppendLaws.{appends-first, appends-second}
use Rattle.journal_store.proofs.appending.append_at.Goals as goal

pub returns-in-Ok-clause-appends : goal.returns-in-Ok-clause-appends
returns-in-Ok-clause-appends g c =
    λ list payloads stores is bytes.
    let old = g.D.Disk.drive c.args.disk.now in
    let middle = g.D.Disk.drive c.write_and_sync.new.disk in
    let first = subst (λ (written : List ℕ). Keeps {E = Failed} (IsTorn (c.args.gate + 1) (length written)) (overlaid (c.args.gate + 1) written old.bytes) (Ok c.in-Ok.field-0) old middle) bytes (c.in-Ok.ensures.keeps stores.honest stores.stored) in
    let second = c.write_and_sync-in-Ok.ensures.keeps (c.in-Ok.ensures.goes_on.honest ∙ stores.honest) first.stored in
    appends-second c.args.gate list payloads c.in-Ok.field-0 c.write_and_sync-in-Ok.result old middle (g.D.Disk.drive c.write_and_sync-in-Ok.new.disk) stores is c.in-Ok.ensures.goes_on first c.write_and_sync-in-Ok.ensures.goes_on second

pub returns-in-Err-clause-appends : goal.returns-in-Err-clause-appends
returns-in-Err-clause-appends g c =
    λ list payloads stores is bytes.
    appends-first c.args.gate (length c.args.batch.now) list payloads _ c.in-Err.failed (g.D.Disk.drive c.args.disk.now) (g.D.Disk.drive c.write_and_sync.new.disk) stores (c.in-Err.ensures.keeps stores.honest stores.stored)
