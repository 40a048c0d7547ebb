use Rattle.std.proofs.Common.{◌≡◌, ◌∙◌, length, ap, arith}
use Rattle.std.specs.Prelude.{◌||◌}
use Rattle.fill_text.specs.Data.{SheetData}
use Rattle.fill_session.specs.Timeline.{timeline}
use Rattle.fill_report.specs.Report.{EntriesWrite, additions}
use Rattle.fill_report.proofs.Reported.{addition_next, addition_stops, flag_else, flag_then}
use Rattle.fill_report.proofs.report.write_additions.Goals as goal
use Rattle.fill_report.proofs.report.write_additions.Goals.{then-refused, else-refused}

pub returns-in-Err-clause-leaves : goal.returns-in-Err-clause-leaves
returns-in-Err-clause-leaves g c =
    let s = c.args.session.now in
    let rows : length c.sheet.result.now.rows ≡ length s.spaces.ground.sheet.rows = ap (λ (x : SheetData). length x.rows) c.sheet.ensures in
    addition_stops s.spaces.ground c.loop-above.session.spaces.ground (timeline s) (timeline c.loop-above.session) (timeline c.write_addition.new.session) c.loop-above.refused
    (g.O.Sink.written c.args.out.now) (g.O.Sink.written c.loop-above.out) (g.O.Sink.written c.write_addition.new.out) c.args.steps.now c.loop-above.steps c.write_addition.new.steps
    c.loop-above.invariant.ground
    (λ w. EntriesWrite s.spaces.ground (timeline s) (additions s.spaces.ground.sheet (length s.spaces.ground.sheet.rows)) w (timeline c.write_addition.new.session))
    c.loop-above.above c.in-Err.halt (omega arith) c.loop-above.invariant.written c.in-Err.ensures.leaves

pub loop-above-preserved : goal.loop-above-preserved
loop-above-preserved g c =
    let s = c.args.session.now in
    let flag : c.if-refused.refused ≡ (c.loop-above.refused || c.in-Ok.one) =
    elim c.if-refused.branch [
      | then-refused w ↦ flag_then c.loop-above.refused c.in-Ok.one c.if-refused.refused w.if-refused.true (w.refused-is ∙ w.if-refused.true)
      | else-refused w ↦ flag_else c.loop-above.refused c.in-Ok.one c.if-refused.refused w.if-refused.false w.refused-is
    ] in
    record {
      ground = c.in-Ok.ensures.ground ∙ c.loop-above.invariant.ground;
      written = addition_next s.spaces.ground c.loop-above.session.spaces.ground (timeline s) (timeline c.loop-above.session) (timeline c.write_addition.new.session) c.loop-above.refused
          (g.O.Sink.written c.args.out.now) (g.O.Sink.written c.loop-above.out) (g.O.Sink.written c.write_addition.new.out) c.args.steps.now c.loop-above.steps c.write_addition.new.steps
          c.loop-above.invariant.ground c.loop-above.above c.in-Ok.one c.if-refused.refused flag c.loop-above.invariant.written c.in-Ok.ensures.leaves;
      later = omega arith;
    }
