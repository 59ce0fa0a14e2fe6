use Rattle.std.proofs.Common.{◌∷◌, sym, ap, subst, arith, length, length-append}
use Rattle.journal_store.specs.Format.{batch_bytes}
use Rattle.journal_store.specs.Cut.{IsGate}
use Rattle.journal_store.specs.declared.gate.Gate.TheVariants.{Closed, Open, Torn}
use Rattle.journal_store.specs.Reader.{HasTold}
use Rattle.journal_store.proofs.Sized.{length-batch}
use Rattle.journal_store.proofs.Telling.{IsAtGate, told-again, front-of, enters-closed, enters-open, enters-torn}
use Rattle.journal_store.proofs.reader.Reader.enter.Goals as goal

pub skip-requires-clause-within : goal.skip-requires-clause-within
skip-requires-clause-within g c =
    let is = c.in-Open.ensures in
    omega (arith, ap length c.as_slice.ensures, ap length is.1, ap length is.2.are, length-append (batch_bytes is.2.batch) (is.2.gate ∷ is.2.rest), length-batch is.2.batch)

pub returns-in-Closed-clause-enters : goal.returns-in-Closed-clause-enters
returns-in-Closed-clause-enters g c =
    λ list told.
    let inside = subst (HasTold g.D.Disk.drive list) (sym c.self.view_is) told in
    let at = subst IsAtGate (sym c.self.view_is) (record { none = c.requires.none; goes = c.requires.goes }) in
    let e = c.in-Ok.ensures in
    let again = told-again g.D.Disk.drive list _ c.need.new.disk c.need.new.self inside at (e.leaves inside.honest) e.goes_on e.place (e.front inside.honest (front-of g.D.Disk.drive list _ inside)) in
    enters-closed g.D.Disk.drive list _ again (record { none = at.none; goes = at.goes }) (λ more. omega (arith, e.enough more)) (subst (IsGate Closed) c.as_slice.ensures c.in-Closed.ensures)

pub returns-in-Open-clause-enters : goal.returns-in-Open-clause-enters
returns-in-Open-clause-enters g c =
    λ list told.
    let inside = subst (HasTold g.D.Disk.drive list) (sym c.self.view_is) told in
    let at = subst IsAtGate (sym c.self.view_is) (record { none = c.requires.none; goes = c.requires.goes }) in
    let e = c.in-Ok.ensures in
    let again = told-again g.D.Disk.drive list _ c.need.new.disk c.need.new.self inside at (e.leaves inside.honest) e.goes_on e.place (e.front inside.honest (front-of g.D.Disk.drive list _ inside)) in
    enters-open g.D.Disk.drive list _ c.in-Open.payloads c.place-self-inside.result c.skip.new.self again (record { none = at.none; goes = at.goes }) (subst (IsGate (Open c.in-Open.payloads)) c.as_slice.ensures c.in-Open.ensures) c.place-self-inside.ensures c.skip.ensures

pub returns-in-Torn-clause-enters : goal.returns-in-Torn-clause-enters
returns-in-Torn-clause-enters g c =
    λ list told.
    let inside = subst (HasTold g.D.Disk.drive list) (sym c.self.view_is) told in
    let at = subst IsAtGate (sym c.self.view_is) (record { none = c.requires.none; goes = c.requires.goes }) in
    let e = c.in-Ok.ensures in
    let again = told-again g.D.Disk.drive list _ c.need.new.disk c.need.new.self inside at (e.leaves inside.honest) e.goes_on e.place (e.front inside.honest (front-of g.D.Disk.drive list _ inside)) in
    enters-torn g.D.Disk.drive list _ c.place.result again (record { none = at.none; goes = at.goes }) (λ more. e.enough more) (subst (IsGate Torn) c.as_slice.ensures c.in-Torn.ensures) c.place.ensures
