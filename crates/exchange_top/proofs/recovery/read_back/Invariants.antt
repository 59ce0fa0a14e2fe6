use Rattle.std.proofs.Common.{◌≡◌, ◌≤◌, ◌+◌, ◌-◌, [], length}
use Rattle.command_words.specs.declared.act.TheConstants.{MAX_HISTORY}
use Rattle.journal_disk.specs.Drive.{Honestly}
use Rattle.journal_disk.specs.Steps.{GoesOn, Leaves}
use Rattle.journal_store.specs.Reader.{HasTold}
use Rattle.exchange_top.proofs.Recoveries.{ToldActs}
use Rattle.exchange_top.proofs.recovery.read_back.Given as goal

abbrev pub invariant-payloads : goal.invariant-payloads
invariant-payloads g l = record {
  limits : l.exchange.limits ≡ l.fn.exchange.limits;
  count : l.reader.count ≡ length l.exchange.history;
  told : HasTold g.D.Disk.drive [] l.fn.reader → ToldActs g.D.Disk.drive l.exchange.history l.reader;
  leaves : Honestly (g.D.Disk.drive l.fn.reader.disk) (Leaves (g.D.Disk.drive l.fn.reader.disk) (g.D.Disk.drive l.reader.disk));
  never_falls : (g.D.Disk.drive l.fn.reader.disk).faults ≤ (g.D.Disk.drive l.reader.disk).faults;
  goes_on : GoesOn (g.D.Disk.drive l.fn.reader.disk) (g.D.Disk.drive l.reader.disk);
}

abbrev pub decreases-payloads : goal.decreases-payloads
decreases-payloads g l = MAX_HISTORY + 1 - length l.exchange.history
