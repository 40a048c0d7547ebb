use Rattle.std.proofs.Common.{take}
use Rattle.fill_guard.specs.Read.{AreCells}
use Rattle.fill_guard.proofs.read.read_cells.Given as goal

abbrev pub invariant-loop-row : goal.invariant-loop-row
invariant-loop-row l = AreCells l.sheet l.column (take l.row-index l.rows) l.cells.items
