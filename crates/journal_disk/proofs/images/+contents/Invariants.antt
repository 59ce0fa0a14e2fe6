use Rattle.std.proofs.Common.{length}
use Rattle.journal_disk.proofs.images.+contents.Given as goal

abbrev pub decreases-contents : goal.decreases-contents
decreases-contents l = length l.calls.now
