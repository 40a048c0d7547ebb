use Rattle.std.proofs.Common.{◌∙◌, arith}
use Rattle.fill_opening.proofs.Binds.{none_fell_both}
use Rattle.fill_open.proofs.Replays.{line_stops, line_passes, lines_end}
use Rattle.fill_open.proofs.tables.open_tables.Goals as goal

pub returns-in-Err-clause-stopped : goal.returns-in-Err-clause-stopped
returns-in-Err-clause-stopped g c =
    let l = c.loop-line in
    let stopped = rw l.invariant.files at c.in-Err.ensures.stopped in
    line_stops (g.C.Cabinet.files c.args.cabinet.now) c.args.session.now c.args.lines.now l.tables l.line-index l.invariant.rest c.line-item.result c.line-item.is (omega arith)
    _ _ _ l.invariant.later c.in-Err.stop stopped

pub loop-line-preserved : goal.loop-line-preserved
loop-line-preserved g c =
    let l = c.loop-line in
    let ready = rw l.invariant.files at c.in-Ok.ensures.ready in
    record {
      files = c.open_line.ensures.files ∙ l.invariant.files;
      later = none_fell_both (g.C.Cabinet.faults c.args.cabinet.now) (g.C.Cabinet.faults l.cabinet) (g.C.Cabinet.faults c.open_line.new.cabinet) l.invariant.later c.open_line.ensures.later;
      rest = line_passes (g.C.Cabinet.files c.args.cabinet.now) c.args.session.now c.args.lines.now l.tables l.line-index l.invariant.rest c.line-item.result c.line-item.is (omega arith)
          _ ready;
    }

pub returns-clause-ready : goal.returns-clause-ready
returns-clause-ready g c =
    let l = c.loop-line in
    lines_end (g.C.Cabinet.files c.args.cabinet.now) c.args.session.now c.args.lines.now l.tables l.line-index l.invariant.rest (omega arith)
