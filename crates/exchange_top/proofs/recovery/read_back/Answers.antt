use Rattle.std.proofs.Common.{◌≡◌, ℕ, List, [], ◌∷◌, length, sym, ◌∙◌, ap, subst, arith, length-append}
use Rattle.std.specs.Prelude.{Ok}
use Rattle.command_words.specs.declared.act.Act.{Act}
use Rattle.settle_core.specs.Bounds.{Bounds}
use Rattle.settle_core.specs.Legal.{IsLegal}
use Rattle.journal_store.specs.Reader.{Tells}
use Rattle.journal_store.specs.declared.outcome.Next.{Next}
use Rattle.exchange_top.specs.Recovery.{Stops, StopsAt, IsRedone, of_next}
use Rattle.exchange_top.proofs.Recoveries.{told-more, why-of, stops-next, stops-at, leaves-trans}
use Rattle.exchange_top.proofs.recovery.read_back.Goals as goal

legal-here : (limits now : Bounds) (history told : List Act) → told ≡ history → now ≡ limits → IsLegal now told → IsLegal limits history
legal-here limits now history told same kept legal = subst (λ (b : Bounds). IsLegal b history) kept (subst (IsLegal now) same legal)

pub returns-in-Err-clause-stops : goal.returns-in-Err-clause-stops
returns-in-Err-clause-stops g c = λ first.
    let drive = g.D.Disk.drive in
    let told = c.payloads.invariant.told first in
    let same = (c.in-Err.ensures.leaves told.told.honest).bytes ∙ (c.payloads.invariant.leaves first.honest).bytes in
    let legal = legal-here c.args.exchange.limits c.payloads.exchange.limits c.payloads.exchange.history c.history.result.now c.history.ensures.value c.payloads.invariant.limits c.history.ensures.legal in
    let stops = stops-next drive c.args.exchange.limits (drive c.args.reader.disk).bytes told.list c.payloads.exchange.history c.next.new.self c.in-Err.fault (length c.history.result.now) same told.spelled legal (ap length c.history.ensures.value) (c.in-Err.ensures.tells told.list told.told) in
    let why : c.give_up.result.why ≡ of_next c.in-Err.fault (length c.history.result.now) = why-of c.give_up.result c.of_next.result c.next.new.self.disk c.give_up.ensures ∙ c.of_next.ensures in
    subst (Stops c.args.exchange.limits (drive c.args.reader.disk).bytes) (sym why) stops

pub payloads-preserved : goal.payloads-preserved
payloads-preserved g c =
    let drive = g.D.Disk.drive in
    let redone = subst (IsRedone c.payloads.exchange.history c.redo.new.exchange.history) c.payload.ensures c.in-Ok.ensures.ok in
    record {
      limits = c.redo.ensures.limits ∙ c.payloads.invariant.limits;
      count = omega (arith, c.in-Ok-Payload.ensures.more (ap Ok c.in-Ok-Payload.field-0-is), c.payloads.invariant.count, ap length redone.next, length-append c.payloads.exchange.history (redone.act ∷ []));
      told = λ first.
          let told = c.payloads.invariant.told first in
          let tells = subst (λ (n : Next). Tells drive told.list (Ok n) c.next.new.self) c.in-Ok-Payload.field-0-is (c.in-Ok-Payload.ensures.tells told.list told.told) in
          told-more drive told.list c.payloads.exchange.history c.redo.new.exchange.history c.next.new.self.payload c.next.new.self told.spelled tells.1 redone;
      leaves = λ honest.
          leaves-trans (drive c.args.reader.disk) (drive c.payloads.reader.disk) (drive c.next.new.self.disk) c.payloads.invariant.goes_on (c.payloads.invariant.leaves honest) (c.in-Ok-Payload.ensures.leaves (c.payloads.invariant.goes_on.honest ∙ honest));
      never_falls = omega (arith, c.payloads.invariant.never_falls, c.in-Ok-Payload.ensures.never_falls);
      goes_on = record {
        honest = c.in-Ok-Payload.ensures.goes_on.honest ∙ c.payloads.invariant.goes_on.honest;
        moment = omega (arith, c.payloads.invariant.goes_on.moment, c.in-Ok-Payload.ensures.goes_on.moment);
      };
    }

pub returns-in-Err-redo-clause-stops : goal.returns-in-Err-redo-clause-stops
returns-in-Err-redo-clause-stops g c = λ first.
    let drive = g.D.Disk.drive in
    let told = c.payloads.invariant.told first in
    let history = c.payloads.exchange.history in
    let next = c.next.new.self in
    let same = (c.in-Ok-Payload.ensures.leaves told.told.honest).bytes ∙ (c.payloads.invariant.leaves first.honest).bytes in
    let legal = legal-here c.args.exchange.limits c.payloads.exchange.limits history c.history.result.now c.history.ensures.value c.payloads.invariant.limits c.history.ensures.legal in
    let tells = subst (λ (n : Next). Tells drive told.list (Ok n) next) c.in-Ok-Payload.field-0-is (c.in-Ok-Payload.ensures.tells told.list told.told) in
    let at = subst (λ (b : Bounds). StopsAt b history next.payload next.place c.in-Err-redo.why) c.payloads.invariant.limits
    (subst (λ (place : ℕ). StopsAt c.payloads.exchange.limits history next.payload place c.in-Err-redo.why) c.place.ensures
    (subst (λ (payload : List ℕ). StopsAt c.payloads.exchange.limits history payload c.place.result c.in-Err-redo.why) c.payload.ensures c.in-Err-redo.ensures.err)) in
    let stops = stops-at c.args.exchange.limits (drive c.args.reader.disk).bytes (drive next.disk).bytes told.list history next.payload next.place c.in-Err-redo.why same told.spelled legal tells.0 at in
    let why = why-of c.give_up-in-Err-redo.result c.in-Err-redo.why c.next.new.self.disk c.give_up-in-Err-redo.ensures in
    subst (Stops c.args.exchange.limits (drive c.args.reader.disk).bytes) (sym why) stops
