use Rattle.std.proofs.Common.{◌≡◌, length, map, take}
use Rattle.fill_tables.proofs.tables.slices_of.Given as goal

abbrev pub invariant-loop-cell : goal.invariant-loop-cell
invariant-loop-cell l = record {
  count : length l.slices.items ≡ l.cell-index;
  same : map (λ slice. slice.now) l.slices.items ≡ take l.cell-index l.cells;
}
