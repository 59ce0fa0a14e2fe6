use Rattle.std.proofs.Common.{◌≡◌, ◌<◌, length, subst, sym, arith}
use Rattle.condition_table.specs.Conditions.{ConditionsView}
use Rattle.condition_table.proofs.Reports.{reports-push}
use Rattle.condition_table.proofs.table.Conditions.prepare.Goals as goal

pub invariant_of-self : goal.invariant_of-self
invariant_of-self c =
    let facts = c.self.inside.facts.items in
    let numerators = c.self.inside.numerators.items in
    let same : length numerators ≡ length facts = omega arith in
    let within : length facts < c.self.inside.limit = subst (λ (v : ConditionsView). length v.facts < v.limit) (sym c.self.view_is) c.requires.within in
    (omega arith, c.self.invariant.1, omega arith, rw (c.push_reserved.ensures.items, c.push_reserved-2.ensures.items) (reports-push facts numerators _ same c.self.invariant.3))
