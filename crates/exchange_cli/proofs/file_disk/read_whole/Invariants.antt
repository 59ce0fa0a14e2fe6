use Rattle.std.proofs.Common.{length, ◌-◌, ◌≤◌}
use Rattle.exchange_cli.proofs.file_disk.read_whole.Given as goal

abbrev pub invariant-loop-read : goal.invariant-loop-read
invariant-loop-read l = l.read ≤ length l.into

abbrev pub decreases-loop-read : goal.decreases-loop-read
decreases-loop-read l = length l.into - l.read
