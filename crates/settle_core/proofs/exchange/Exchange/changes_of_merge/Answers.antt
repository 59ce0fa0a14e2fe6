use Rattle.std.proofs.Common.{◌≡◌, ◌==◌, true, false, Err, Some, rules, tests, sym, subst, ◌∙◌}
use Rattle.command_words.specs.declared.command.Command.TheVariants.{Merge}
use Rattle.command_words.specs.declared.refusal.Refusal.TheVariants.{Unfunded}
use Rattle.condition_sets.specs.declared.names.TheConstants.{EXCHANGE}
use Rattle.ledger_book.specs.Ledger.{amount_at}
use Rattle.ledger_book.specs.Planning.{first_short, PlannedBy}
use Rattle.ledger_book.specs.declared.plan_fault.PlanFault.{PlanFault}
use Rattle.split_merge.specs.Splitting.{whole_of, parts_of}
use Rattle.settle_core.specs.Exchange.{ExchangeView, asked}
use Rattle.settle_core.specs.Verdict.{verdict, AnsweredBy}
use Rattle.settle_core.specs.declared.changes.Changes.{Changes}
use Rattle.settle_core.specs.declared.keys.Partition.{Partition}
use Rattle.settle_core.proofs.KeptLemmas.{last_refusals}
use Rattle.settle_core.proofs.Partings.{refused-first, front-answered, front-none}
use Rattle.settle_core.proofs.Plans.{parting-last, parting-short, partition-told, taken_of}
use Rattle.settle_core.proofs.Verdicts.{answered-err}
use Rattle.settle_core.proofs.exchange.Exchange.changes_of_merge.Goals as goal

pub returns-then-get-eq-EXCHANGE-clause-verdict : goal.returns-then-get-eq-EXCHANGE-clause-verdict
returns-then-get-eq-EXCHANGE-clause-verdict c = refused-first (asked c.args.self.now c.args.account (Merge c.args.parent.now c.args.condition c.args.sets.now c.args.amount) c.args.now) _ (search (rules, tests))

pub returns-in-Err-clause-verdict : goal.returns-in-Err-clause-verdict
returns-in-Err-clause-verdict c =
    let e = c.self.inside in
    let allowed : (c.args.account == EXCHANGE) ≡ false = search (rules, tests) in
    subst (λ (s : ExchangeView). AnsweredBy {X = Changes} (verdict (asked s c.args.account (Merge c.args.parent.now c.args.condition c.args.sets.now c.args.amount) c.args.now)) (Err c.in-Err.refusal)) c.self.view_is
    (front-answered Partition Changes true e.limits e.history.items c.args.account c.args.parent.now c.as_slice.result.now c.args.condition c.args.sets.now c.as_slice-2.result.now c.args.amount c.args.now e.conditions.facts c.in-Err.refusal allowed
    c.as_slice.ensures c.as_slice-2.ensures c.self.invariant.0.conditions c.in-Err.ensures.verdict)

pub returns-in-Err-Short-clause-verdict : goal.returns-in-Err-Short-clause-verdict
returns-in-Err-Short-clause-verdict c =
    let e = c.self.inside in
    let h = e.history.items in
    let allowed : (c.args.account == EXCHANGE) ≡ false = search (rules, tests) in
    let front = front-none true e.limits h c.args.account c.args.parent.now c.as_slice.result.now c.args.condition c.args.sets.now c.as_slice-2.result.now c.args.amount c.args.now e.conditions.facts allowed c.as_slice.ensures c.as_slice-2.ensures c.self.invariant.0.conditions c.in-Ok.ensures.verdict in
    let told = partition-told e.limits e.events e.conditions e.ledger h c.self.invariant.0 c.args.account c.args.parent.now c.as_slice.result.now c.in-Ok.parted.parent c.args.condition c.args.sets.now c.as_slice-2.result.now c.deref.result.now c.in-Ok.parted.union c.args.amount c.in-Some.amount
    c.as_slice.ensures c.as_slice-2.ensures c.in-Ok.ensures.parent c.in-Ok.ensures.union (c.deref.ensures.value ∙ c.in-Ok.ensures.sets) c.in-Some.ensures.value in
    let whole = whole_of c.in-Ok.parted.union c.in-Ok.parted.parent c.args.condition in
    let parts = parts_of c.in-Ok.parted.parent c.args.condition c.deref.result.now in
    let short = subst (λ (fault : PlanFault). PlannedBy (first_short (amount_at e.ledger c.args.account) c.in-Some.amount (taken_of true whole parts)) (Err fault)) c.in-Err-Short.field-0-is c.in-Err-Short.ensures.short in
    subst (λ (s : ExchangeView). verdict (asked s c.args.account (Merge c.args.parent.now c.args.condition c.args.sets.now c.args.amount) c.args.now) ≡ Some (Unfunded c.in-Err-Short.have c.in-Err-Short.place)) c.self.view_is
    (parting-short true e.limits h c.args.account c.args.parent.now c.args.condition c.args.sets.now c.args.amount c.args.now (amount_at e.ledger c.args.account) whole parts c.in-Some.amount c.in-Err-Short.have c.in-Err-Short.place front told short)

pub returns-in-Some-refusal_at_last-clause-verdict : goal.returns-in-Some-refusal_at_last-clause-verdict
returns-in-Some-refusal_at_last-clause-verdict c =
    let e = c.self.inside in
    let h = e.history.items in
    let allowed : (c.args.account == EXCHANGE) ≡ false = search (rules, tests) in
    let front = front-none true e.limits h c.args.account c.args.parent.now c.as_slice.result.now c.args.condition c.args.sets.now c.as_slice-2.result.now c.args.amount c.args.now e.conditions.facts allowed c.as_slice.ensures c.as_slice-2.ensures c.self.invariant.0.conditions c.in-Ok.ensures.verdict in
    let told = partition-told e.limits e.events e.conditions e.ledger h c.self.invariant.0 c.args.account c.args.parent.now c.as_slice.result.now c.in-Ok.parted.parent c.args.condition c.args.sets.now c.as_slice-2.result.now c.deref.result.now c.in-Ok.parted.union c.args.amount c.in-Some.amount
    c.as_slice.ensures c.as_slice-2.ensures c.in-Ok.ensures.parent c.in-Ok.ensures.union (c.deref.ensures.value ∙ c.in-Ok.ensures.sets) c.in-Some.ensures.value in
    let here = parting-last true e.limits h c.args.account c.args.parent.now c.args.condition c.args.sets.now c.args.amount c.args.now (amount_at e.ledger c.args.account) (whole_of c.in-Ok.parted.union c.in-Ok.parted.parent c.args.condition)
    (parts_of c.in-Ok.parted.parent c.args.condition c.deref.result.now) c.in-Some.amount c.plan_merge.new.s.postings front told c.in-Ok-plan_merge.ensures.short c.in-Ok-plan_merge.ensures.ok in
    let last = subst (λ (s : ExchangeView). verdict (asked s c.args.account (Merge c.args.parent.now c.args.condition c.args.sets.now c.args.amount) c.args.now) ≡ last_refusals s.limits s.history c.plan_merge.new.s.postings) c.self.view_is here in
    answered-err Changes _ c.in-Some-refusal_at_last.refusal (last ∙ (sym c.refusal_at_last.ensures ∙ c.in-Some-refusal_at_last.is))

pub returns-clause-verdict : goal.returns-clause-verdict
returns-clause-verdict c =
    let e = c.self.inside in
    let h = e.history.items in
    let allowed : (c.args.account == EXCHANGE) ≡ false = search (rules, tests) in
    let front = front-none true e.limits h c.args.account c.args.parent.now c.as_slice.result.now c.args.condition c.args.sets.now c.as_slice-2.result.now c.args.amount c.args.now e.conditions.facts allowed c.as_slice.ensures c.as_slice-2.ensures c.self.invariant.0.conditions c.in-Ok.ensures.verdict in
    let told = partition-told e.limits e.events e.conditions e.ledger h c.self.invariant.0 c.args.account c.args.parent.now c.as_slice.result.now c.in-Ok.parted.parent c.args.condition c.args.sets.now c.as_slice-2.result.now c.deref.result.now c.in-Ok.parted.union c.args.amount c.in-Some.amount
    c.as_slice.ensures c.as_slice-2.ensures c.in-Ok.ensures.parent c.in-Ok.ensures.union (c.deref.ensures.value ∙ c.in-Ok.ensures.sets) c.in-Some.ensures.value in
    let here = parting-last true e.limits h c.args.account c.args.parent.now c.args.condition c.args.sets.now c.args.amount c.args.now (amount_at e.ledger c.args.account) (whole_of c.in-Ok.parted.union c.in-Ok.parted.parent c.args.condition)
    (parts_of c.in-Ok.parted.parent c.args.condition c.deref.result.now) c.in-Some.amount c.plan_merge.new.s.postings front told c.in-Ok-plan_merge.ensures.short c.in-Ok-plan_merge.ensures.ok in
    let last = subst (λ (s : ExchangeView). verdict (asked s c.args.account (Merge c.args.parent.now c.args.condition c.args.sets.now c.args.amount) c.args.now) ≡ last_refusals s.limits s.history c.plan_merge.new.s.postings) c.self.view_is here in
    last ∙ (sym c.refusal_at_last.ensures ∙ c.in-None.is)
