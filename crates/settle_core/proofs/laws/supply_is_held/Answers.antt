use Rattle.settle_core.proofs.Held.{supply-held}
use Rattle.settle_core.proofs.laws.supply_is_held.Goals as goal

pub returns : goal.returns
returns c = supply-held
