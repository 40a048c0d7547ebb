use Rattle.std.proofs.Common.{◌≡◌, min, arith}
use Rattle.fill_sheet.specs.Sheet.{headers}
use Rattle.fill_sheet.proofs.Cells.{range-drop-take}
use Rattle.fill_sheet.proofs.reading.row_records.Goals as goal
use Rattle.fill_sheet.proofs.reading.row_records.Goals.{then-header, else-header}

pub returns : goal.returns
returns c =
    let start : c.if-header.start ≡ min c.min-end.result (headers c.args.header) = elim c.if-header.branch [
      | then-header w ↦ rw (w.start-is, w.if-header.true) w.min-start.ensures
      | else-header w ↦ rw (w.start-is, w.if-header.false) (omega arith)
    ] in
    range-drop-take c.args.records.now (headers c.args.header) c.args.most c.if-header.start c.min-end.result c.min-end.ensures start
