use Rattle.std.proofs.Common.{◌≡◌, ◌==◌, ◌^◌, false, length, Err, rules, tests, sym, subst, ◌∙◌}
use Rattle.std.specs.Prelude.{nat_le}
use Rattle.command_words.specs.declared.command.Command.TheVariants.{Convert}
use Rattle.condition_sets.specs.declared.names.TheConstants.{EXCHANGE}
use Rattle.settle_core.specs.Exchange.{ExchangeView, asked}
use Rattle.settle_core.specs.Verdict.{AnsweredBy, verdict}
use Rattle.settle_core.specs.declared.changes.Changes.{Changes}
use Rattle.settle_core.proofs.KeptLemmas.{last_refusals}
use Rattle.settle_core.proofs.Plans.{In, convert-last, convert-refused, made-inside}
use Rattle.settle_core.proofs.Verdicts.{answered-err}
use Rattle.settle_core.proofs.exchange.Exchange.changes_of_convert.Goals as goal

pub returns-in-Err-clause-verdict : goal.returns-in-Err-clause-verdict
returns-in-Err-clause-verdict c =
    let e = c.self.inside in
    let allowed : (c.args.account == EXCHANGE) ≡ false = search (rules, tests) in
    let some : (c.args.set == 0) ≡ false = search (rules, tests) in
    let inside : In e.events c.args.event (λ view. nat_le (2 ^ length view.conditions) c.args.set ≡ false)
    = made-inside _ c.in-Some.facts c.args.set (sym c.get-2.ensures.value ∙ c.in-Some.is) (sym c.is_outside.ensures ∙ c.if-is_outside.false) in
    subst (λ (s : ExchangeView). AnsweredBy {X = Changes} (verdict (asked s c.args.account (Convert c.args.event c.args.set c.args.amount) c.args.now)) (Err c.refused.result)) c.self.view_is
    (convert-refused Changes e.limits e.events e.conditions e.ledger e.history.items c.self.invariant.0 c.args.account c.args.event c.args.set c.args.amount c.args.now c.in-Some-new.amount c.in-Err.fault c.refused.result allowed some inside c.in-Some-new.ensures.value c.in-Err.ensures.short c.refused.ensures)

pub returns-in-Some-refusal_at_last-clause-verdict : goal.returns-in-Some-refusal_at_last-clause-verdict
returns-in-Some-refusal_at_last-clause-verdict c =
    let e = c.self.inside in
    let h = e.history.items in
    let allowed : (c.args.account == EXCHANGE) ≡ false = search (rules, tests) in
    let some : (c.args.set == 0) ≡ false = search (rules, tests) in
    let inside : In e.events c.args.event (λ view. nat_le (2 ^ length view.conditions) c.args.set ≡ false)
    = made-inside _ c.in-Some.facts c.args.set (sym c.get-2.ensures.value ∙ c.in-Some.is) (sym c.is_outside.ensures ∙ c.if-is_outside.false) in
    let here = convert-last e.limits e.events e.conditions e.ledger h c.self.invariant.0 c.args.account c.args.event c.args.set c.args.amount c.args.now c.in-Some-new.amount c.plan_convert.new.s.postings allowed some inside c.in-Some-new.ensures.value c.in-Ok.ensures.short c.in-Ok.ensures.postings in
    let last = subst (λ (s : ExchangeView). verdict (asked s c.args.account (Convert c.args.event c.args.set c.args.amount) c.args.now) ≡ last_refusals s.limits s.history c.plan_convert.new.s.postings) c.self.view_is here in
    answered-err Changes _ c.in-Some-refusal_at_last.refusal (last ∙ (sym c.refusal_at_last.ensures ∙ c.in-Some-refusal_at_last.is))

pub returns-in-None-clause-verdict : goal.returns-in-None-clause-verdict
returns-in-None-clause-verdict c =
    let e = c.self.inside in
    let h = e.history.items in
    let allowed : (c.args.account == EXCHANGE) ≡ false = search (rules, tests) in
    let some : (c.args.set == 0) ≡ false = search (rules, tests) in
    let inside : In e.events c.args.event (λ view. nat_le (2 ^ length view.conditions) c.args.set ≡ false)
    = made-inside _ c.in-Some.facts c.args.set (sym c.get-2.ensures.value ∙ c.in-Some.is) (sym c.is_outside.ensures ∙ c.if-is_outside.false) in
    let here = convert-last e.limits e.events e.conditions e.ledger h c.self.invariant.0 c.args.account c.args.event c.args.set c.args.amount c.args.now c.in-Some-new.amount c.plan_convert.new.s.postings allowed some inside c.in-Some-new.ensures.value c.in-Ok.ensures.short c.in-Ok.ensures.postings in
    let last = subst (λ (s : ExchangeView). verdict (asked s c.args.account (Convert c.args.event c.args.set c.args.amount) c.args.now) ≡ last_refusals s.limits s.history c.plan_convert.new.s.postings) c.self.view_is here in
    last ∙ (sym c.refusal_at_last.ensures ∙ c.in-None.is)
