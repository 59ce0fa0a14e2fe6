use Rattle.std.proofs.Common.{◌≡◌, ◌+◌, ◌≤◌, false, length}
use Rattle.line_link.specs.LineReader.{untold}
use Rattle.settle_core.specs.Bounds.{standard}
use Rattle.exchange_top.specs.declared.serving.TheConstants.{MAX_INPUT}
use Rattle.exchange_top.specs.Run.{outside}
use Rattle.exchange_top.proofs.Runs.{Serving}
use Rattle.exchange_top.proofs.Stores.{Storing}
use Rattle.exchange_top.proofs.serving.serve.Given as goal

abbrev pub invariant-lines : goal.invariant-lines
invariant-lines g l = record {
  serving : Serving l.fn.house.history l.lines l.house.history l.desk.reader
      (outside (g.R.Source.left l.fn.source) (g.W.Sink.held l.fn.sink) (g.C.Clock.may_have_told l.fn.clock))
      (outside (g.R.Source.left l.source) (g.W.Sink.held l.sink) (g.C.Clock.may_have_told l.clock));
  storing : Storing g.D.Disk.drive l.fn.journal.disk l.fn.house.history l.house.history l.journal;
  sound : l.journal.broken ≡ false;
  count : l.journal.count ≡ length l.house.history;
  limits : l.house.limits ≡ standard;
  limit : l.desk.reader.limit ≡ MAX_INPUT;
  few : l.lines + untold l.desk.reader ≤ MAX_INPUT;
  read_faults : g.R.Source.read_faults l.fn.source ≤ g.R.Source.read_faults l.source;
  write_faults : g.W.Sink.write_faults l.fn.sink ≤ g.W.Sink.write_faults l.sink;
  disk_faults : (g.D.Disk.drive l.fn.journal.disk).faults ≤ (g.D.Disk.drive l.journal.disk).faults;
}

abbrev pub decreases-lines : goal.decreases-lines
decreases-lines g l = untold l.desk.reader
