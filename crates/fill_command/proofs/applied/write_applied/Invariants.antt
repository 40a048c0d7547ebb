use Rattle.std.proofs.Common.{◌≤◌}
use Rattle.fill_open.specs.Apply.{application_data}
use Rattle.fill_command.specs.Output.{WritesRows}
use Rattle.fill_command.proofs.applied.write_applied.Given as goal

-- the rows so far
abbrev pub invariant-loop-above : goal.invariant-loop-above
invariant-loop-above g l = record {
  written : WritesRows (application_data l.a) l.above (g.O.Sink.written l.initial.out) (g.O.Sink.written l.out);
  later : g.O.Sink.faults l.initial.out ≤ g.O.Sink.faults l.out;
}
