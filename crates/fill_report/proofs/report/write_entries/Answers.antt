use Rattle.std.proofs.Common.{◌≡◌, ◌∙◌, arith}
use Rattle.std.specs.Prelude.{◌||◌}
use Rattle.fill_session.specs.Timeline.{timeline}
use Rattle.fill_report.specs.Report.{EntriesWrite}
use Rattle.fill_report.proofs.Reported.{entry_next, entry_stops, flag_else, flag_then}
use Rattle.fill_report.proofs.report.write_entries.Goals as goal
use Rattle.fill_report.proofs.report.write_entries.Goals.{then-refused, else-refused}

pub returns-in-Err-clause-leaves : goal.returns-in-Err-clause-leaves
returns-in-Err-clause-leaves g c =
    let s = c.args.session.now in
    entry_stops s.spaces.ground c.loop-entry.session.spaces.ground (timeline s) (timeline c.loop-entry.session) (timeline c.write_entry.new.session) c.loop-entry.refused
    (g.O.Sink.written c.args.out.now) (g.O.Sink.written c.loop-entry.out) (g.O.Sink.written c.write_entry.new.out) c.args.steps.now c.loop-entry.steps c.write_entry.new.steps
    c.loop-entry.invariant.ground
    (λ w. EntriesWrite s.spaces.ground (timeline s) c.args.entries.now w (timeline c.write_entry.new.session))
    c.args.entries.now c.loop-entry.entry-index c.entry-item.result c.in-Err.halt c.loop-entry-test.true c.entry-item.is c.loop-entry.invariant.written c.in-Err.ensures.leaves

pub loop-entry-preserved : goal.loop-entry-preserved
loop-entry-preserved g c =
    let s = c.args.session.now in
    let flag : c.if-refused.refused ≡ (c.loop-entry.refused || c.in-Ok.one) =
    elim c.if-refused.branch [
      | then-refused w ↦ flag_then c.loop-entry.refused c.in-Ok.one c.if-refused.refused w.if-refused.true (w.refused-is ∙ w.if-refused.true)
      | else-refused w ↦ flag_else c.loop-entry.refused c.in-Ok.one c.if-refused.refused w.if-refused.false w.refused-is
    ] in
    record {
      ground = c.in-Ok.ensures.ground ∙ c.loop-entry.invariant.ground;
      written = entry_next s.spaces.ground c.loop-entry.session.spaces.ground (timeline s) (timeline c.loop-entry.session) (timeline c.write_entry.new.session) c.loop-entry.refused
          (g.O.Sink.written c.args.out.now) (g.O.Sink.written c.loop-entry.out) (g.O.Sink.written c.write_entry.new.out) c.args.steps.now c.loop-entry.steps c.write_entry.new.steps
          c.loop-entry.invariant.ground c.args.entries.now c.loop-entry.entry-index c.entry-item.result c.in-Ok.one c.if-refused.refused c.loop-entry-test.true c.entry-item.is flag
          c.loop-entry.invariant.written c.in-Ok.ensures.leaves;
      later = omega arith;
      memo = c.write_entry.ensures.memo;
    }
