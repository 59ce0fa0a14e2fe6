use Rattle.std.proofs.Common.{length}
use Rattle.settle_core.proofs.exchange.Exchange.+first_unplaced.Given as goal

abbrev pub decreases-first_unplaced : goal.decreases-first_unplaced
decreases-first_unplaced l = length l.named.now
