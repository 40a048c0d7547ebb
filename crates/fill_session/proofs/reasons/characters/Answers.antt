use Rattle.std.proofs.Common.{◌≡◌, ◌<◌, ◌≤◌, ℕ, List, Some, length, get_or, subst, ◌∙◌, arith}
use Rattle.fill_text.specs.Data.{SheetData, cell_at}
use Rattle.fill_session.proofs.CellCounts.{has_row, more_cells, all_cells}
use Rattle.fill_session.proofs.reasons.characters.Goals as goal

pub loop-column-preserved : goal.loop-column-preserved
loop-column-preserved c =
    let sheet : SheetData = c.args.sheet.now in
    let same : c.inputs-column-items.result.now ≡ sheet.inputs = c.inputs-column-items.ensures in
    let items = c.inputs-column-items.result.now in
    let i : ℕ = c.loop-column.column-index in
    let lt : i < length sheet.inputs = rw (← same) (omega (arith, c.loop-column-test.true)) in
    let cell : cell_at sheet c.args.row (get_or sheet.inputs i 0) ≡ Some c.cell.result.now = subst (λ (xs : List ℕ). cell_at sheet c.args.row (get_or xs i 0) ≡ Some c.cell.result.now) same c.cell.ensures in
    let more = more_cells sheet c.args.row i c.cell.result.now c.rows-rows.ensures.shape (has_row sheet c.args.row c.requires) lt cell in
    let size = c.len-sum.ensures.value in
    let small = c.len-sum.ensures.small in
    (let so_far = c.loop-column.invariant.0 in omega arith, let bound = c.loop-column.invariant.1 in omega arith)

pub returns : goal.returns
returns c =
    let sheet : SheetData = c.args.sheet.now in
    let same : c.inputs-column-items.result.now ≡ sheet.inputs = c.inputs-column-items.ensures in
    let le : length sheet.inputs ≤ c.loop-column.column-index = rw (← same) (omega (arith, c.loop-column-test.false)) in
    c.loop-column.invariant.0 ∙ all_cells sheet c.args.row c.loop-column.column-index c.rows-rows.ensures.shape (has_row sheet c.args.row c.requires) le
