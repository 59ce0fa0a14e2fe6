use Rattle.std.proofs.Common.{◌≡◌, ◌≤◌, ◌∙◌, ℕ, List, ◌++◌, sym, ap, subst, arith, length}
use Rattle.journal_store.specs.Format.{IsPayload, payload_bytes}
use Rattle.journal_store.specs.Reader.{ReaderView, HasTold}
use Rattle.journal_store.proofs.Cutting.{payload-room}
use Rattle.journal_store.proofs.Telling.{tells-payload, tells-none}
use Rattle.journal_store.proofs.reader.Reader.tell.Goals as goal

pub returns-in_default-clause-tells : goal.returns-in_default-clause-tells
returns-in_default-clause-tells g c =
    λ list told.
    let some : 1 ≤ c.args.self.now.waiting = c.requires.some in
    let none = subst (λ (xs : List ℕ). (p us : List ℕ) → IsPayload p → xs ≡ payload_bytes p ++ us → ⊥) (c.as_slice.ensures ∙ ap (λ (r : ReaderView g.row.D.Denot). r.unread.bytes) c.self.view_is) c.in_default.ensures.none in
    absurd (tells-none g.D.Disk.drive list c.args.self.now told some none)

pub skip-requires-clause-within : goal.skip-requires-clause-within
skip-requires-clause-within g c = omega (arith, payload-room c.as_slice.result.now c.in-Some.payload.now c.in-Some.field-0-1.now c.in-Some.ensures.bytes, ap length c.as_slice.ensures)

pub returns-clause-tells : goal.returns-clause-tells
returns-clause-tells g c =
    λ list told.
    let inside = subst (HasTold g.D.Disk.drive list) (sym c.self.view_is) told in
    let some : 1 ≤ c.self.inside.waiting = omega (arith, c.requires.some, ap (λ (r : ReaderView g.row.D.Denot). r.waiting) c.self.view_is) in
    let last = c.append.ensures.bytes ∙ ap (λ (xs : List ℕ). xs ++ c.in-Some.payload.now) c.clear.ensures.items in
    tells-payload g.D.Disk.drive list _ c.skip.new.self c.in-Some.payload.now c.in-Some.field-0-1.now c.append.new.bytes.items inside some c.in-Some.ensures.some (sym c.as_slice.ensures ∙ c.in-Some.ensures.bytes) c.skip.ensures last
