use Rattle.exchange_top.proofs.Damages.{one-damage}
use Rattle.exchange_top.proofs.laws.one_damage.Goals as goal

pub returns : goal.returns
returns c = one-damage
