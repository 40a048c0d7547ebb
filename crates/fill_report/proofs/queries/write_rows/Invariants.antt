use Rattle.std.proofs.Common.{◌≤◌}
use Rattle.fill_doubt.specs.Shapes.{ShapesStand}
use Rattle.fill_report.specs.Counts.{CountRows}
use Rattle.fill_report.proofs.Leaving.{RowsWritten}
use Rattle.fill_report.proofs.queries.write_rows.Given as goal

-- the rows so far and the numbers of their states, and what was found of shapes stands
abbrev pub invariant-loop-above : goal.invariant-loop-above
invariant-loop-above g l = record {
  written : RowsWritten l.session.spaces.ground l.session.examples l.above (g.O.Sink.written l.initial.out) (g.O.Sink.written l.out);
  later : g.O.Sink.faults l.initial.out ≤ g.O.Sink.faults l.out;
  shapes : ShapesStand l.session.spaces.arena l.shapes;
  counts : CountRows l.session.spaces.ground l.session.examples l.above l.counts;
}
