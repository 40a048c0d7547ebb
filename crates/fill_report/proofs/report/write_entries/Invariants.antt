use Rattle.std.proofs.Common.{◌≡◌, ◌≤◌, take}
use Rattle.fill_session.specs.Timeline.{timeline}
use Rattle.fill_report.specs.Counts.{IsMemoOf}
use Rattle.fill_report.proofs.Walk.{Wrote}
use Rattle.fill_report.proofs.report.write_entries.Given as goal

-- the entries so far, and what is known of the rows
abbrev pub invariant-loop-entry : goal.invariant-loop-entry
invariant-loop-entry g l = record {
  ground : l.session.spaces.ground ≡ l.initial.session.spaces.ground;
  written : Wrote l.initial.session.spaces.ground (timeline l.initial.session) (take l.entry-index l.entries) (timeline l.session) l.refused
      (g.O.Sink.written l.initial.out) (g.O.Sink.written l.out) l.initial.steps l.steps;
  later : g.O.Sink.faults l.initial.out ≤ g.O.Sink.faults l.out;
  memo : IsMemoOf l.session.spaces.ground l.session.examples l.memo;
}
