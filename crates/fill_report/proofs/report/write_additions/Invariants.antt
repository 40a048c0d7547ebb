use Rattle.std.proofs.Common.{◌≡◌, ◌≤◌}
use Rattle.fill_session.specs.Timeline.{timeline}
use Rattle.fill_report.specs.Report.{additions}
use Rattle.fill_report.proofs.Walk.{Wrote}
use Rattle.fill_report.proofs.report.write_additions.Given as goal

-- the rows so far
abbrev pub invariant-loop-above : goal.invariant-loop-above
invariant-loop-above g l = record {
  ground : l.session.spaces.ground ≡ l.initial.session.spaces.ground;
  written : Wrote l.initial.session.spaces.ground (timeline l.initial.session) (additions l.initial.session.spaces.ground.sheet l.above) (timeline l.session) l.refused
      (g.O.Sink.written l.initial.out) (g.O.Sink.written l.out) l.initial.steps l.steps;
  later : g.O.Sink.faults l.initial.out ≤ g.O.Sink.faults l.out;
}
