use Rattle.std.proofs.Common.{[], false, None, arith}
use Rattle.fill_sheet.proofs.Decisions.{made-sheet}
use Rattle.fill_sheet.proofs.sheet.Sheet.without_rows.Goals as goal

pub invariant_of-result : goal.invariant_of-result
invariant_of-result c = rw (c.in_ok-rising.ensures, c.new.ensures.items) (made-sheet 0 false c.args.inputs.now None [] (omega arith) c.requires)
