use Rattle.std.proofs.Common.{◌≡◌, ◌∙◌, length, sym, arith, subst}
use Rattle.std.specs.Prelude.{MatchOption, slice_get}
use Rattle.condition_table.specs.Conditions.{ConditionsView, IsReport}
use Rattle.condition_table.proofs.Reports.{reports-made}
use Rattle.condition_table.proofs.table.Conditions.report.Goals as goal

pub invariant_of-self : goal.invariant_of-self
invariant_of-self c =
    let facts = c.self.inside.facts.items in
    let numerators = c.self.inside.numerators.items in
    let same : length numerators ≡ length facts = omega arith in
    let number = c.from.ensures ∙ c.get.ensures.value in
    let may = subst (λ (v : ConditionsView). MatchOption (slice_get v.facts c.args.condition) ⊥ (λ f. IsReport f.slots c.args.numerators)) (sym c.self.view_is) c.requires.report in
    (c.self.invariant.0, c.self.invariant.1, c.self.invariant.2, rw number (reports-made facts numerators c.args.condition c.args.numerators same may c.self.invariant.3))
