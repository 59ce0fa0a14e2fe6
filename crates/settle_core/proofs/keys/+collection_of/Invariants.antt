use Rattle.std.proofs.Common.{length}
use Rattle.settle_core.proofs.keys.+collection_of.Given as goal

abbrev pub decreases-collection_of : goal.decreases-collection_of
decreases-collection_of l = length l.key.now
