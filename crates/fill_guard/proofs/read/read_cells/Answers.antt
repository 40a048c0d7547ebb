use Rattle.std.proofs.Common.{◌≡◌, ◌<◌, ℕ, List, Some, arith, get_or, length, sym, ap, ◌∙◌}
use Rattle.std.proofs.lemmas.Option.{slice_get-get_or, get_or_from_slice_get}
use Rattle.fill_text.specs.Data.{cell_at}
use Rattle.fill_guard.proofs.MaskLaws.{zip_more}
use Rattle.fill_guard.proofs.read.read_cells.Goals as goal

pub loop-row-preserved : goal.loop-row-preserved
loop-row-preserved c =
    let rows : List ℕ = c.args.rows.now in
    let row : ℕ = get_or c.args.rows.now c.loop-row.row-index 0 in
    let lt : c.loop-row.row-index < length c.args.rows.now = omega arith in
    zip_more (λ (r : ℕ) (t : List ℕ). cell_at c.args.sheet.now r c.args.column ≡ Some t) rows c.loop-row.cells.items c.push.new.self.items c.loop-row.row-index row c.in_ok-pieces.pieces
    lt (sym (get_or_from_slice_get rows c.loop-row.row-index row row (slice_get-get_or rows c.loop-row.row-index 0 lt))) c.in_ok-push.ensures.items c.loop-row.invariant
    (c.cell.ensures ∙ ap Some (sym c.in_ok-pieces.ensures))
