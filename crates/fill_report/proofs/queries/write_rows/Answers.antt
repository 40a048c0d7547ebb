use Rattle.std.proofs.Common.{◌≡◌, length, ap, arith}
use Rattle.fill_text.specs.Data.{SheetData}
use Rattle.fill_report.proofs.Leaving.{rows_all, rows_next, rows_stop, when_made}
use Rattle.fill_report.proofs.queries.write_rows.Goals as goal

pub returns-in-Err-clause-leaves : goal.returns-in-Err-clause-leaves
returns-in-Err-clause-leaves g c =
    let s = c.args.session.now in
    let rows : length c.sheet.result.now.rows ≡ length s.spaces.ground.sheet.rows = ap (λ (x : SheetData). length x.rows) c.sheet.ensures in
    rows_stop s.spaces.ground s.examples _ (g.O.Sink.written c.loop-above.out) _ c.loop-above.above c.counted_record.result c.in-Err.halt (omega arith) c.counted_record.ensures.made
    c.loop-above.invariant.written c.in-Err.ensures.leaves

pub loop-above-preserved : goal.loop-above-preserved
loop-above-preserved g c =
    let s = c.args.session.now in
    record {
      written = rows_next s.spaces.ground s.examples _ (g.O.Sink.written c.loop-above.out) _ c.loop-above.above c.counted_record.result c.in-Ok.field-0 c.counted_record.ensures.made
          c.loop-above.invariant.written c.in-Ok.ensures.leaves;
      later = omega arith;
      shapes = c.counted_record.ensures.shapes;
      counts = when_made c.counted_record.result c.in-Ok.field-0 (g.O.Sink.written c.loop-above.out) _ c.in-Ok.ensures.leaves c.counted_record.ensures.counts;
    }

pub returns-clause-leaves : goal.returns-clause-leaves
returns-clause-leaves g c =
    let s = c.args.session.now in
    let rows : length c.sheet.result.now.rows ≡ length s.spaces.ground.sheet.rows = ap (λ (x : SheetData). length x.rows) c.sheet.ensures in
    let all : c.loop-above.above ≡ length s.spaces.ground.sheet.rows = omega arith in
    rows_all s.spaces.ground s.examples _ (g.O.Sink.written c.loop-above.out) (g.O.Sink.written c.loop-above.out) c.loop-above.above all c.loop-above.invariant.written
