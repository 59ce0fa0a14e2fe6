use Rattle.std.proofs.Common.{◌==◌, ℕ, ◌∙◌, ap, sym}
use Rattle.std.specs.List.{list_any}
use Rattle.settle_core.proofs.KeyLemmas.{part-any}
use Rattle.settle_core.proofs.keys.has.Goals as goal

pub returns : goal.returns
returns c = c.has_number.ensures ∙ (ap (λ (n : ℕ). list_any (λ p. p.0 == n) c.args.key.now) c.get.ensures.value ∙ sym (part-any c.args.key.now c.args.condition))
