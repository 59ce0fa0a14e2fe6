use Rattle.std.proofs.Common.{◌≡◌, ◌≤◌, length, None, ap, subst, sym, ◌∙◌}
use Rattle.std.specs.Option.{is_some}
use Rattle.std.proofs.lemmas.Bool.{ltb-false}
use Rattle.condition_table.specs.Conditions.{AreReports, ConditionsView, numerators_at}
use Rattle.condition_table.proofs.Reports.{numerators-past}
use Rattle.condition_table.proofs.table.Conditions.numerators.Goals as goal

pub returns-in-Some-clause-reports : goal.returns-in-Some-clause-reports
returns-in-Some-clause-reports c = subst (λ (v : ConditionsView). AreReports v.facts v.numerators) c.self.view_is c.self.invariant.3

pub returns-in-None-clause-value : goal.returns-in-None-clause-value
returns-in-None-clause-value c =
    let past : length c.deref.result.now ≤ c.from.result = ltb-false _ _ (sym c.get-2.ensures.lookup.0 ∙ ap is_some c.in-None.is) in
    let none : numerators_at c.deref.result.now c.from.result ≡ None = numerators-past c.deref.result.now c.from.result past in
    let number = c.from.ensures ∙ c.get.ensures.value in
    subst (λ (v : ConditionsView). numerators_at v.numerators c.args.condition ≡ None) c.self.view_is (rw (c.deref.ensures.value, number) at none)

pub returns-in-None-clause-reports : goal.returns-in-None-clause-reports
returns-in-None-clause-reports c = subst (λ (v : ConditionsView). AreReports v.facts v.numerators) c.self.view_is c.self.invariant.3
