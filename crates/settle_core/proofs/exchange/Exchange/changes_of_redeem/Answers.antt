use Rattle.std.proofs.Common.{◌≡◌, ◌==◌, ◌<◌, List, length, false, None, Some, Err, rules, tests, sym, ap, subst, ◌∙◌, arith}
use Rattle.command_words.specs.declared.command.Command.TheVariants.{Redeem}
use Rattle.command_words.specs.declared.refusal.Refusal.TheVariants.{NotReported}
use Rattle.condition_sets.specs.declared.names.TheConstants.{EXCHANGE}
use Rattle.ledger_book.specs.Ledger.{amount_at}
use Rattle.ledger_book.specs.declared.posting.Posting.{Posting}
use Rattle.report_redeem.proofs.Redemptions.{redeemed-many}
use Rattle.settle_core.specs.Book.{told}
use Rattle.settle_core.specs.Exchange.{ExchangeView, asked}
use Rattle.settle_core.specs.Verdict.{verdict, AnsweredBy}
use Rattle.settle_core.specs.declared.changes.Changes.{Changes}
use Rattle.settle_core.specs.declared.keys.Choice.{Choice}
use Rattle.settle_core.proofs.KeptLemmas.{last_refusals}
use Rattle.settle_core.proofs.Partings.{choice-answered, redeem-front, refused-first}
use Rattle.settle_core.proofs.Plans.{redeem-last}
use Rattle.settle_core.proofs.Posted.{redeemed-some}
use Rattle.settle_core.proofs.Verdicts.{answered-err}
use Rattle.settle_core.proofs.exchange.Exchange.changes_of_redeem.Goals as goal

pub returns-then-get-eq-EXCHANGE-clause-verdict : goal.returns-then-get-eq-EXCHANGE-clause-verdict
returns-then-get-eq-EXCHANGE-clause-verdict c = refused-first (asked c.args.self.now c.args.account (Redeem c.args.parent.now c.args.condition c.args.sets.now) c.args.now) _ (search (rules, tests))

pub returns-in-Err-clause-verdict : goal.returns-in-Err-clause-verdict
returns-in-Err-clause-verdict c =
    let e = c.self.inside in
    let allowed : (c.args.account == EXCHANGE) ≡ false = search (rules, tests) in
    subst (λ (s : ExchangeView). AnsweredBy {X = Changes} (verdict (asked s c.args.account (Redeem c.args.parent.now c.args.condition c.args.sets.now) c.args.now)) (Err c.in-Err.refusal)) c.self.view_is
    (choice-answered Choice Changes e.limits e.history.items c.args.account c.args.parent.now c.as_slice.result.now c.args.condition c.args.sets.now c.as_slice-2.result.now c.args.now e.conditions.facts c.in-Err.refusal allowed
    c.as_slice.ensures c.as_slice-2.ensures c.self.invariant.0.conditions c.in-Err.ensures.verdict)

pub returns-in_default-clause-verdict : goal.returns-in_default-clause-verdict
returns-in_default-clause-verdict c =
    let e = c.self.inside in
    let h = e.history.items in
    let allowed : (c.args.account == EXCHANGE) ≡ false = search (rules, tests) in
    let none : told h c.args.condition ≡ None = sym (c.self.invariant.0.reports.each c.args.condition) ∙ c.in_default.ensures.value in
    let front = redeem-front e.limits h c.args.account c.args.parent.now c.as_slice.result.now c.args.condition c.args.sets.now c.as_slice-2.result.now c.args.now e.conditions.facts None allowed c.as_slice.ensures c.as_slice-2.ensures c.self.invariant.0.conditions c.in-Ok.ensures.verdict none in
    subst (λ (s : ExchangeView). verdict (asked s c.args.account (Redeem c.args.parent.now c.args.condition c.args.sets.now) c.args.now) ≡ Some NotReported) c.self.view_is front

pub refusal_at_last-requires-clause-some : goal.refusal_at_last-requires-clause-some
refusal_at_last-requires-clause-some c =
    let e = c.self.inside in
    let sets : length c.deref.result.now ≡ length c.args.sets.now = ap length (c.deref.ensures.value ∙ (c.in-Ok.ensures.sets ∙ c.as_slice-2.ensures)) in
    let many = redeemed-many (amount_at e.ledger) c.args.account c.in-Ok.chosen.parent c.args.condition c.in-Some.numerators.now c.deref.result.now in
    subst (λ (ps : List Posting). 0 < length ps) (sym c.in_ok-paid.ensures.postings) (omega (arith, sets, many, redeemed-some c.args.parent.now c.args.condition c.args.sets.now c.requires))

pub returns-in-Some-refusal_at_last-clause-verdict : goal.returns-in-Some-refusal_at_last-clause-verdict
returns-in-Some-refusal_at_last-clause-verdict c =
    let e = c.self.inside in
    let h = e.history.items in
    let allowed : (c.args.account == EXCHANGE) ≡ false = search (rules, tests) in
    let here = redeem-last e.limits e.events e.conditions e.ledger h c.self.invariant.0 c.args.account c.args.parent.now c.as_slice.result.now c.in-Ok.chosen.parent c.args.condition c.args.sets.now c.as_slice-2.result.now c.deref.result.now c.args.now c.in-Some.numerators.now c.plan_redeem.new.s.postings
    allowed c.as_slice.ensures c.as_slice-2.ensures c.in-Ok.ensures.parent (c.deref.ensures.value ∙ c.in-Ok.ensures.sets) c.in-Ok.ensures.verdict c.in-Some.ensures.value c.in_ok-paid.ensures.postings in
    let last = subst (λ (s : ExchangeView). verdict (asked s c.args.account (Redeem c.args.parent.now c.args.condition c.args.sets.now) c.args.now) ≡ last_refusals s.limits s.history c.plan_redeem.new.s.postings) c.self.view_is here in
    answered-err Changes _ c.in-Some-refusal_at_last.refusal (last ∙ (sym c.refusal_at_last.ensures ∙ c.in-Some-refusal_at_last.is))

pub returns-clause-verdict : goal.returns-clause-verdict
returns-clause-verdict c =
    let e = c.self.inside in
    let h = e.history.items in
    let allowed : (c.args.account == EXCHANGE) ≡ false = search (rules, tests) in
    let here = redeem-last e.limits e.events e.conditions e.ledger h c.self.invariant.0 c.args.account c.args.parent.now c.as_slice.result.now c.in-Ok.chosen.parent c.args.condition c.args.sets.now c.as_slice-2.result.now c.deref.result.now c.args.now c.in-Some.numerators.now c.plan_redeem.new.s.postings
    allowed c.as_slice.ensures c.as_slice-2.ensures c.in-Ok.ensures.parent (c.deref.ensures.value ∙ c.in-Ok.ensures.sets) c.in-Ok.ensures.verdict c.in-Some.ensures.value c.in_ok-paid.ensures.postings in
    let last = subst (λ (s : ExchangeView). verdict (asked s c.args.account (Redeem c.args.parent.now c.args.condition c.args.sets.now) c.args.now) ≡ last_refusals s.limits s.history c.plan_redeem.new.s.postings) c.self.view_is here in
    last ∙ (sym c.refusal_at_last.ensures ∙ c.in-None.is)
