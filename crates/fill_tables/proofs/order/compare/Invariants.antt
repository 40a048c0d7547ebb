use Rattle.std.proofs.Common.{◌≡◌, drop, map}
use Rattle.fill_text.specs.Data.{nth}
use Rattle.fill_tables.specs.Orders.{cells_cmp}
use Rattle.fill_tables.proofs.order.compare.Given as goal

abbrev pub invariant-loop-column : goal.invariant-loop-column
invariant-loop-column l = cells_cmp (map (nth l.row) l.columns) (map (nth l.other) l.columns) ≡ cells_cmp (map (nth l.row) (drop l.column-index l.columns)) (map (nth l.other) (drop l.column-index l.columns))
