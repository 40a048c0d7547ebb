use Rattle.std.proofs.Common.{length, ◌-◌, ◌≡◌, ◌≤◌, take}
use Rattle.std.specs.Io.KnownBytes.{Appends}
use Rattle.fill_edge.proofs.writing.write_all.Given as goal

abbrev pub invariant-loop-done : goal.invariant-loop-done
invariant-loop-done g l = record {
  within : l.done ≤ length l.piece;
  written : Appends (g.O.Sink.written l.initial.sink) (g.O.Sink.written l.sink) (take l.done l.piece);
  same : g.O.Sink.faults l.sink ≡ g.O.Sink.faults l.initial.sink;
  later : g.O.Sink.faults l.initial.sink ≤ g.O.Sink.faults l.sink;
  unchanged : l.done ≡ 0 → l.sink ≡ l.initial.sink;
}

abbrev pub decreases-loop-done : goal.decreases-loop-done
decreases-loop-done g l = length l.piece - l.done
