use Rattle.std.proofs.Common.{◌≡◌, ℕ, true, length, refl, sym, ◌∙◌, ap, subst, inl, inr, arith}
use Rattle.journal_disk.specs.Drive.{Honestly}
use Rattle.journal_disk.specs.Steps.{Leaves}
use Rattle.line_link.specs.declared.status.Status.TheVariants.{Memory}
use Rattle.outside_faults.specs.Faults.{Rose}
use Rattle.outside_faults.proofs.Told.{IfTold-same}
use Rattle.settle_core.specs.Bounds.{Bounds}
use Rattle.settle_core.specs.Legal.{IsLegal}
use Rattle.settle_core.specs.Exchange.{ExchangeView}
use Rattle.exchange_top.specs.Holds.{HasStored, SpellAll}
use Rattle.exchange_top.specs.Recovery.{Stops}
use Rattle.exchange_top.specs.Run.{outside, Ran}
use Rattle.exchange_top.specs.declared.ended.Ended.{Ended}
use Rattle.exchange_top.proofs.Endings.{ran-served, stands-since, stopped-served}
use Rattle.exchange_top.proofs.Runs.{serving-none}
use Rattle.exchange_top.proofs.program.run.Goals as goal

pub returns-in-Ok-new-clause-ran : goal.returns-in-Ok-new-clause-ran
returns-in-Ok-new-clause-ran g c =
    let drive = g.D.Disk.drive in
    let recovered = c.in-Ok-recover.ensures in
    let same = ap (λ (s : ExchangeView). s.history) c.in-Ok-new.ensures in
    inl (ran-served drive g.D.Disk.is_drive c.args.disk c.in-Ok-recover.opened.journal.disk c.in-Ok-new.house.history c.serve.result _ _
    c.serve.ensures.served recovered.goes_on (λ honest. let r = recovered.ok honest in (r.list, r.stands, subst (SpellAll r.list) (sym same) r.spelled)) recovered.since)

pub returns-in-Err-new-clause-ran : goal.returns-in-Err-new-clause-ran
returns-in-Err-new-clause-ran g c =
    let drive = g.D.Disk.drive in
    let recovered = c.in-Ok-recover.ensures in
    let opened = c.in-Ok-recover.opened in
    let first = opened.exchange.history in
    let legal = subst (λ (limits : Bounds). IsLegal limits first) (recovered.limits ∙ c.standard.ensures) (subst (IsLegal opened.exchange.limits) c.history.ensures.value c.history.ensures.legal) in
    let stored : Honestly (drive opened.journal.disk) (HasStored drive first opened.journal) = λ honest. let r = recovered.ok (sym recovered.goes_on.honest ∙ honest) in record { list = r.list; kept = r.kept; spelled = r.spelled } in
    let ended : ℕ → g.row.D.Denot → Ended g.row.D.Denot = λ acts disk. record { status = Memory; lines = 0; acts = acts; disk = disk } in
    let same : ended (length first) opened.journal.disk ≡ ended (length c.history.result.now) c.give_up.result = λ i. ended (length (sym c.history.ensures.value i)) (sym c.give_up.ensures i) in
    let before = outside (g.R.Source.left c.args.source.now) (g.W.Sink.held c.args.sink.now) (g.C.Clock.may_have_told c.args.clock.now) in
    inl (subst (λ (e : Ended g.row.D.Denot). Ran drive c.args.disk e before before) same
    (ran-served drive g.D.Disk.is_drive c.args.disk opened.journal.disk first (ended (length first) opened.journal.disk) before before
    (serving-none drive g.D.Disk.is_drive first opened.journal before stored legal) recovered.goes_on (λ honest. let r = recovered.ok honest in (r.list, r.stands, r.spelled)) recovered.since))

pub returns-in-Err-recover-clause-ran : goal.returns-in-Err-recover-clause-ran
returns-in-Err-recover-clause-ran g c =
    let drive = g.D.Disk.drive in
    let disk = c.args.disk in
    let failed = c.in-Err-recover.ensures in
    inr (record {
      says = c.stop.ensures.says (drive disk).honest (drive disk).bytes (subst (λ (limits : Bounds). (drive disk).honest ≡ true → Stops limits (drive disk).bytes c.in-Err-recover.failed.why) c.standard.ensures failed.stops);
      lines = c.stop.ensures.lines.0;
      acts = c.stop.ensures.lines.1;
      read = IfTold-same (g.R.Source.left c.args.source.now) _ (λ input. refl);
      moments = λ earlier was. was;
      leaves = λ honest long. subst (λ (d : g.row.D.Denot). Leaves (drive disk) (drive d)) (sym c.stop.ensures.disk) (failed.leaves honest long);
      since = λ honest stored image now.
          stands-since drive g.D.Disk.is_drive disk image stored
          (failed.since honest stored (drive disk).moment image (omega arith) (subst (λ (d : g.row.D.Denot). (drive d).image_since (drive disk).moment image) c.stop.ensures.disk now));
    })

pub returns-in-Err-recover-clause-complete : goal.returns-in-Err-recover-clause-complete
returns-in-Err-recover-clause-complete g c =
    λ history honest holds legal words read write disk.
    let failed = c.in-Err-recover.ensures in
    stopped-served c.stop.result.status c.in-Err-recover.failed.why c.stop.ensures.status write (failed.excused history honest holds (subst (λ (limits : Bounds). IsLegal limits history) (sym c.standard.ensures) legal))
    (λ same. disk (subst (λ (d : g.row.D.Denot). Rose (g.D.Disk.drive c.args.disk).faults (g.D.Disk.drive d).faults) (sym c.stop.ensures.disk) (failed.cause same)))
