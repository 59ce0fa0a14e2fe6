use Rattle.std.proofs.Common.{◌⊎◌, ◌≤◌, sym, ap, subst, arith, length, length-append, ◌∷◌, []}
use Rattle.journal_store.specs.Format.{IsBatch, batch_bytes}
use Rattle.journal_store.specs.Journal.{JournalView, IsOf}
use Rattle.journal_store.specs.Stands.{StandsForEither}
use Rattle.journal_store.proofs.Sized.{body-within, length-batch}
use Rattle.journal_store.proofs.journal.Journal.append.Goals as goal

pub invariant_of-self : goal.invariant_of-self
invariant_of-self g c =
    let ps = c.args.batch.now in
    grind (arith, c.self.invariant, ap length c.as_slice-in-Ok.ensures.bytes, length-append (batch_bytes ps) (0 ∷ []), length-batch ps, body-within ps c.as_slice-in-Ok.ensures.payloads, c.len.ensures.value, c.requires.some)

pub returns-in-Err-clause-image : goal.returns-in-Err-clause-image
returns-in-Err-clause-image g c =
    λ list image of now.
    let inside = subst (λ (j : JournalView g.row.D.Denot). IsOf g.D.Disk.drive list j) (sym c.self.view_is) of in
    let is : IsBatch c.args.batch.now = record { at_least = c.requires.some; at_most = c.as_slice.ensures.few; payloads = c.as_slice.ensures.payloads } in
    (c.in-Err.ensures.appends list c.args.batch.now inside.stored is c.as_slice.ensures.bytes).image image now

pub returns-in-Err-clause-since : goal.returns-in-Err-clause-since
returns-in-Err-clause-since g c =
    λ list moment image of early since.
    let inside = subst (λ (j : JournalView g.row.D.Denot). IsOf g.D.Disk.drive list j) (sym c.self.view_is) of in
    let is : IsBatch c.args.batch.now = record { at_least = c.requires.some; at_most = c.as_slice.ensures.few; payloads = c.as_slice.ensures.payloads } in
    let appends = c.in-Err.ensures.appends list c.args.batch.now inside.stored is c.as_slice.ensures.bytes in
    subst
    (λ (j : JournalView g.row.D.Denot). moment ≤ (g.D.Disk.drive j.disk).moment → (g.D.Disk.drive c.append_at.new.disk).image_since moment image → (g.D.Disk.drive j.disk).image_since moment image ⊎ StandsForEither list c.args.batch.now image)
    c.self.view_is
    (λ before after. appends.since moment image before after)
    early
    since
