use Rattle.settle_core.proofs.Stops.{turn-stops}
use Rattle.settle_core.proofs.laws.turns_stop_for_room.Goals as goal

pub returns : goal.returns
returns c = turn-stops
