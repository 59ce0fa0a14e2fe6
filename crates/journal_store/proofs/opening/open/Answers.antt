use Rattle.std.proofs.Common.{◌≡◌, ◌∙◌, [], ◌∷◌, true, sym, ap, subst}
use Rattle.journal_store.specs.Opening.{IsHead, HasOpened}
use Rattle.journal_store.specs.Reader.{Unread}
use Rattle.journal_store.proofs.Beginning.{begins-made, fresh, opened-journal, opened-empty}
use Rattle.journal_store.proofs.opening.open.Goals as goal

pub returns-in-Ok-clause-begins : goal.returns-in-Ok-clause-begins
returns-in-Ok-clause-begins g c =
    λ honest stored.
    let old = g.D.Disk.drive c.args.disk.now in
    let middle = g.D.Disk.drive c.synced_head.new.disk in
    let e = c.in-Ok-Short.ensures in
    let short = subst (λ h. IsHead h old.bytes) c.in-Ok-Short.field-0-is (e.head honest) in
    begins-made _ old middle (g.D.Disk.drive c.make_empty.new.disk) (e.leaves honest) e.goes_on short (c.in-Ok.ensures.makes (fresh old middle honest (e.leaves honest) e.goes_on (e.stored honest) short))

pub returns-in-Err-make_empty-clause-begins : goal.returns-in-Err-make_empty-clause-begins
returns-in-Err-make_empty-clause-begins g c =
    λ honest stored.
    let old = g.D.Disk.drive c.args.disk.now in
    let middle = g.D.Disk.drive c.synced_head.new.disk in
    let e = c.in-Ok-Short.ensures in
    let short = subst (λ h. IsHead h old.bytes) c.in-Ok-Short.field-0-is (e.head honest) in
    begins-made c.make_empty.result old middle (g.D.Disk.drive c.make_empty.new.disk) (e.leaves honest) e.goes_on short (c.make_empty.ensures.makes (fresh old middle honest (e.leaves honest) e.goes_on (e.stored honest) short))

pub returns-in-Ok-clause-opened : goal.returns-in-Ok-clause-opened
returns-in-Ok-clause-opened g c =
    λ honest.
    let old = g.D.Disk.drive c.args.disk.now in
    let middle = g.D.Disk.drive c.synced_head.new.disk in
    let e = c.in-Ok-Short.ensures in
    let short = subst (λ h. IsHead h old.bytes) c.in-Ok-Short.field-0-is (e.head honest) in
    let is = fresh old middle honest (e.leaves honest) e.goes_on (e.stored honest) short in
    let made = c.in-Ok.ensures.makes is in
    let window : c.end_with.new.self ≡ record { place = 16; bytes = 0 ∷ []; is_last = true } =
    c.end_with.ensures ∙ ap (λ (w : Unread). let u : Unread = record { place = w.place; bytes = 0 ∷ []; is_last = true } in u) c.requires in
    subst (HasOpened old (g.D.Disk.drive c.make_empty.new.disk)) (sym window) (opened-empty old (g.D.Disk.drive c.make_empty.new.disk) made.stored.stored short (c.in-Ok.ensures.bytes is))

pub returns-in-Ok-Header-clause-opened : goal.returns-in-Ok-Header-clause-opened
returns-in-Ok-Header-clause-opened g c =
    λ honest.
    let old = g.D.Disk.drive c.args.disk.now in
    let e = c.in-Ok-Header.ensures in
    let begins = subst (λ h. IsHead h old.bytes) c.in-Ok-Header.field-0-is (e.head honest) in
    subst (HasOpened old (g.D.Disk.drive c.synced_head.new.disk)) (sym c.requires) (opened-journal old (g.D.Disk.drive c.synced_head.new.disk) (e.leaves honest) (e.stored honest) begins.0 begins.1)
