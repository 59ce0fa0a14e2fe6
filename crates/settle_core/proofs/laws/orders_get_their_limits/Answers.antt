use Rattle.settle_core.proofs.Fair.{fair}
use Rattle.settle_core.proofs.laws.orders_get_their_limits.Goals as goal

pub returns : goal.returns
returns c = fair
