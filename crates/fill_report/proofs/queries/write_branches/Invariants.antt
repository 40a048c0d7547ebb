use Rattle.std.proofs.Common.{◌≤◌, take}
use Rattle.std.specs.Io.KnownBytes.{Appends}
use Rattle.fill_output.specs.Fields.{report_text}
use Rattle.fill_report.specs.Records.{shown_records}
use Rattle.fill_report.proofs.queries.write_branches.Given as goal

-- the records so far
abbrev pub invariant-loop-i : goal.invariant-loop-i
invariant-loop-i g l = record {
  written : Appends (g.O.Sink.written l.initial.out) (g.O.Sink.written l.out) (report_text (take l.i (shown_records 1 l.branches)));
  later : g.O.Sink.faults l.initial.out ≤ g.O.Sink.faults l.out;
}
