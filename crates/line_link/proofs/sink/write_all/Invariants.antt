use Rattle.std.proofs.Common.{◌≡◌, ℕ, ◌≤◌, length, take, drop}
use Rattle.std.specs.Io.KnownBytes.{Appends}
use Rattle.line_link.proofs.sink.write_all.Given as goal

-- a front of the bytes was written, and the rest is what stands after it
abbrev pub invariant-loop-rest : goal.invariant-loop-rest
invariant-loop-rest g l = record {
  front : (n : ℕ) × (n ≤ length l.bytes) × (l.rest ≡ drop n l.bytes) × Appends (g.K.Sink.held l.fn.sink) (g.K.Sink.held l.sink) (take n l.bytes);
  never_falls : g.K.Sink.write_faults l.fn.sink ≤ g.K.Sink.write_faults l.sink;
  kept : g.K.Sink.kept_by_write l.sink ≡ g.K.Sink.kept_by_write l.fn.sink;
}

abbrev pub decreases-loop-rest : goal.decreases-loop-rest
decreases-loop-rest g l = length l.rest
