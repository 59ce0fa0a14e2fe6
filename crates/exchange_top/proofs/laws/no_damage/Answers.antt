use Rattle.exchange_top.proofs.Recoveries.{no-damage}
use Rattle.exchange_top.proofs.laws.no_damage.Goals as goal

pub returns : goal.returns
returns c = λ limits bytes history why holds legal stops. no-damage limits bytes why history holds legal stops
