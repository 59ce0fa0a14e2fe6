use Rattle.std.proofs.Common.{◌≡◌, ◌==◌, ℕ, ◌∷◌, [], List, length, Bool, true, false, None, Some, refl, rules, tests, sym, ap, subst, ◌∙◌}
use Rattle.std.specs.Prelude.{nat_le, slice_get}
use Rattle.command_words.specs.declared.command.Command.TheVariants.{Report}
use Rattle.command_words.specs.declared.refusal.Refusal.TheVariants.{BadPayouts, HistoryFull}
use Rattle.condition_sets.specs.declared.names.TheConstants.{EXCHANGE}
use Rattle.condition_table.specs.declared.facts.Facts.{Facts}
use Rattle.settle_core.specs.Book.{conditions, told}
use Rattle.settle_core.specs.Exchange.{ExchangeView, asked}
use Rattle.settle_core.specs.OrderRules.{where_}
use Rattle.settle_core.specs.Refusals.{is_no_report}
use Rattle.settle_core.specs.Verdict.{verdict, first_some}
use Rattle.settle_core.proofs.Partings.{report-front, none-told}
use Rattle.settle_core.proofs.exchange.Exchange.changes_of_report.Goals as goal

pub returns-then-is_no_report-clause-verdict : goal.returns-then-is_no_report-clause-verdict
returns-then-is_no_report-clause-verdict c =
    let e = c.self.inside in
    let h = e.history.items in
    let allowed : (c.args.account == EXCHANGE) ≡ false = search (rules, tests) in
    let at : slice_get (conditions h) c.args.condition ≡ Some c.in-Some.facts = ap (λ (facts : List Facts). slice_get facts c.args.condition) (sym c.self.invariant.0.conditions) ∙ (sym c.get-2.ensures ∙ c.in-Some.is) in
    let own : (c.in-Some.facts.oracle == c.args.account) ≡ true = search (rules, tests) in
    let none : told h c.args.condition ≡ None = sym (c.self.invariant.0.reports.each c.args.condition) ∙ none-told _ (sym c.is_reported.ensures ∙ c.if-is_reported.false) in
    let bad : is_no_report (Some c.in-Some.facts) c.args.payouts.now ≡ true = ap (λ (payouts : List ℕ). is_no_report (Some c.in-Some.facts) payouts) (sym c.as_slice.ensures) ∙ (sym c.is_no_report.ensures ∙ c.if-is_no_report.true) in
    subst (λ (s : ExchangeView). verdict (asked s c.args.account (Report c.args.condition c.args.payouts.now) c.args.now) ≡ Some BadPayouts) c.self.view_is
    (report-front e.limits h c.args.account c.args.condition c.args.payouts.now c.args.now c.in-Some.facts true (nat_le e.limits.history (length h)) allowed at own none bad refl)

pub returns-then-is_full-clause-verdict : goal.returns-then-is_full-clause-verdict
returns-then-is_full-clause-verdict c =
    let e = c.self.inside in
    let h = e.history.items in
    let allowed : (c.args.account == EXCHANGE) ≡ false = search (rules, tests) in
    let at : slice_get (conditions h) c.args.condition ≡ Some c.in-Some.facts = ap (λ (facts : List Facts). slice_get facts c.args.condition) (sym c.self.invariant.0.conditions) ∙ (sym c.get-2.ensures ∙ c.in-Some.is) in
    let own : (c.in-Some.facts.oracle == c.args.account) ≡ true = search (rules, tests) in
    let none : told h c.args.condition ≡ None = sym (c.self.invariant.0.reports.each c.args.condition) ∙ none-told _ (sym c.is_reported.ensures ∙ c.if-is_reported.false) in
    let good : is_no_report (Some c.in-Some.facts) c.args.payouts.now ≡ false = ap (λ (payouts : List ℕ). is_no_report (Some c.in-Some.facts) payouts) (sym c.as_slice.ensures) ∙ (sym c.is_no_report.ensures ∙ c.if-is_no_report.false) in
    let front = subst (λ (s : ExchangeView). verdict (asked s c.args.account (Report c.args.condition c.args.payouts.now) c.args.now) ≡ first_some (where_ (nat_le s.limits.history (length s.history)) HistoryFull ∷ [])) c.self.view_is
    (report-front e.limits h c.args.account c.args.condition c.args.payouts.now c.args.now c.in-Some.facts false (nat_le e.limits.history (length h)) allowed at own none good refl) in
    front ∙ ap (λ (full : Bool). first_some (where_ full HistoryFull ∷ [])) (sym c.is_full.ensures ∙ c.if-is_full.true)

pub returns-clause-verdict : goal.returns-clause-verdict
returns-clause-verdict c =
    let e = c.self.inside in
    let h = e.history.items in
    let allowed : (c.args.account == EXCHANGE) ≡ false = search (rules, tests) in
    let at : slice_get (conditions h) c.args.condition ≡ Some c.in-Some.facts = ap (λ (facts : List Facts). slice_get facts c.args.condition) (sym c.self.invariant.0.conditions) ∙ (sym c.get-2.ensures ∙ c.in-Some.is) in
    let own : (c.in-Some.facts.oracle == c.args.account) ≡ true = search (rules, tests) in
    let none : told h c.args.condition ≡ None = sym (c.self.invariant.0.reports.each c.args.condition) ∙ none-told _ (sym c.is_reported.ensures ∙ c.if-is_reported.false) in
    let good : is_no_report (Some c.in-Some.facts) c.args.payouts.now ≡ false = ap (λ (payouts : List ℕ). is_no_report (Some c.in-Some.facts) payouts) (sym c.as_slice.ensures) ∙ (sym c.is_no_report.ensures ∙ c.if-is_no_report.false) in
    let front = subst (λ (s : ExchangeView). verdict (asked s c.args.account (Report c.args.condition c.args.payouts.now) c.args.now) ≡ first_some (where_ (nat_le s.limits.history (length s.history)) HistoryFull ∷ [])) c.self.view_is
    (report-front e.limits h c.args.account c.args.condition c.args.payouts.now c.args.now c.in-Some.facts false (nat_le e.limits.history (length h)) allowed at own none good refl) in
    front ∙ ap (λ (full : Bool). first_some (where_ full HistoryFull ∷ [])) (sym c.is_full.ensures ∙ c.if-is_full.false)
