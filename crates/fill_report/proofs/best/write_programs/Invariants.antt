use Rattle.std.proofs.Common.{◌≤◌, map, take}
use Rattle.std.specs.Io.KnownBytes.{Appends}
use Rattle.fill_tree.specs.Meaning.{program_tree}
use Rattle.fill_output.specs.Fields.{report_text}
use Rattle.fill_report.specs.Records.{best_records}
use Rattle.fill_report.proofs.best.write_programs.Given as goal

-- the records so far
abbrev pub invariant-loop-i : goal.invariant-loop-i
invariant-loop-i g l = record {
  written : Appends (g.O.Sink.written l.initial.out) (g.O.Sink.written l.out) (report_text (take l.i (best_records l.branch 1 (map program_tree l.programs))));
  later : g.O.Sink.faults l.initial.out ≤ g.O.Sink.faults l.out;
}
