use Rattle.order_rules.proofs.Crossings.{one-crossing}
use Rattle.order_rules.proofs.laws.one_crossing_gives_the_other.Goals as goal

pub returns : goal.returns
returns c = one-crossing
