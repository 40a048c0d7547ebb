use Rattle.std.proofs.Common.{◌≡◌, ◌≤◌, length, drop, map, Some}
use Rattle.fill_text.specs.Data.{nth}
use Rattle.fill_tables.specs.Orders.{cells_cmp}
use Rattle.fill_tables.proofs.order.compare_with.Given as goal

abbrev pub invariant-loop-i : goal.invariant-loop-i
invariant-loop-i l =
    let texts = map (λ cell. cell.now) l.cells in
    record {
      there : l.i ≤ length texts;
      rest : cells_cmp (map (nth l.row) l.columns) (map Some texts) ≡ cells_cmp (map (nth l.row) (drop l.i l.columns)) (map Some (drop l.i texts));
    }
