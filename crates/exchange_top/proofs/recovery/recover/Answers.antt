use Rattle.std.proofs.Common.{◌≡◌, sym, ◌∙◌, ap, subst, arith}
use Rattle.std.specs.Prelude.{true}
use Rattle.exchange_top.specs.Recovery.{Recovers, Stops, IsExcused}
use Rattle.exchange_top.specs.declared.recovery.OpenFailed.{OpenFailed}
use Rattle.exchange_top.proofs.Recoveries.{recovers-before, stops-before, no-damage, leaves-trans, begin-excused, ok-where, err-where, err-onward, StoppedBehind, stopped-behind}
use Rattle.exchange_top.proofs.recovery.recover.Goals as goal

pub returns-in-Ok-new-clause-ok : goal.returns-in-Ok-new-clause-ok
returns-in-Ok-new-clause-ok g c =
    let drive = g.D.Disk.drive in
    let before = (drive c.args.disk).bytes in
    let now = (drive c.in-Ok.reader.disk).bytes in
    ok-where c.read_back.result ((drive c.args.disk).honest ≡ true)
    (λ opened. Recovers drive now opened.exchange.history opened.journal)
    (λ opened. Recovers drive before opened.exchange.history opened.journal)
    (λ honest. c.read_back.ensures.ok (c.in-Ok.ensures.ok honest))
    (λ opened honest r. recovers-before drive before now opened.exchange.history opened.journal (c.in-Ok.ensures.opens honest) r)

pub returns-in-Ok-new-clause-stops : goal.returns-in-Ok-new-clause-stops
returns-in-Ok-new-clause-stops g c =
    let drive = g.D.Disk.drive in
    let before = (drive c.args.disk).bytes in
    let now = (drive c.in-Ok.reader.disk).bytes in
    err-where c.read_back.result ((drive c.args.disk).honest ≡ true)
    (StoppedBehind c.args.limits now)
    (λ failed. Stops c.args.limits before failed.why)
    (λ honest. stopped-behind c.args.limits c.in-Ok-new.exchange.limits now c.read_back.result c.in-Ok-new.ensures.limits c.read_back.ensures.journal (c.read_back.ensures.stops (c.in-Ok.ensures.ok honest)))
    (λ failed honest s. stops-before c.args.limits before now failed.why (c.in-Ok.ensures.opens honest) s.header s.stops)

pub returns-in-Ok-new-clause-excused : goal.returns-in-Ok-new-clause-excused
returns-in-Ok-new-clause-excused g c = λ history honest holds legal.
    let drive = g.D.Disk.drive in
    let before = (drive c.args.disk).bytes in
    let now = (drive c.in-Ok.reader.disk).bytes in
    let told = c.in-Ok.ensures.ok honest in
    err-onward c.read_back.result
    (StoppedBehind c.args.limits now)
    (λ failed. IsExcused failed.why)
    (stopped-behind c.args.limits c.in-Ok-new.exchange.limits now c.read_back.result c.in-Ok-new.ensures.limits c.read_back.ensures.journal (c.read_back.ensures.stops told))
    (λ failed s. no-damage c.args.limits before failed.why history holds legal (stops-before c.args.limits before now failed.why (c.in-Ok.ensures.opens honest) s.header s.stops))

pub returns-in-Ok-new-clause-leaves : goal.returns-in-Ok-new-clause-leaves
returns-in-Ok-new-clause-leaves g c = λ honest long.
    let drive = g.D.Disk.drive in
    leaves-trans (drive c.args.disk) (drive c.in-Ok.reader.disk) _ c.in-Ok.ensures.goes_on (c.in-Ok.ensures.leaves honest long) (c.read_back.ensures.leaves (c.in-Ok.ensures.goes_on.honest ∙ honest))

pub returns-in-Ok-new-clause-image : goal.returns-in-Ok-new-clause-image
returns-in-Ok-new-clause-image g c = λ honest stored image there.
    c.in-Ok.ensures.image honest stored image ((c.read_back.ensures.leaves (c.in-Ok.ensures.goes_on.honest ∙ honest)).image image there)

pub returns-in-Ok-new-clause-since : goal.returns-in-Ok-new-clause-since
returns-in-Ok-new-clause-since g c = λ honest stored moment image early since.
    c.in-Ok.ensures.since honest stored moment image early
    ((c.read_back.ensures.leaves (c.in-Ok.ensures.goes_on.honest ∙ honest)).since moment image (omega (arith, early, c.in-Ok.ensures.goes_on.moment)) since)

pub returns-in-Err-new-clause-image : goal.returns-in-Err-new-clause-image
returns-in-Err-new-clause-image g c = λ honest stored image there.
    let drive = g.D.Disk.drive in
    let same = ap (λ (failed : OpenFailed g.row.D.Denot). failed.disk) c.give_up.ensures in
    c.in-Ok.ensures.image honest stored image (subst (λ (disk : g.row.D.Denot). (drive disk).image image) same there)

pub returns-in-Err-clause-excused : goal.returns-in-Err-clause-excused
returns-in-Err-clause-excused g c = λ history honest holds legal.
    subst IsExcused (sym c.of_begin.ensures)
    (begin-excused (g.D.Disk.drive c.args.disk).bytes c.in-Err.failed.why history (λ same. c.in-Err.ensures.not_journal same honest) holds)
