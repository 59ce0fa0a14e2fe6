use Rattle.std.proofs.Common.{length}
use Rattle.journal_disk.proofs.images.+images.Given as goal

abbrev pub decreases-images : goal.decreases-images
decreases-images l = length l.calls.now
