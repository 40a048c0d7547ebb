use Rattle.std.proofs.Common.{map}
use Rattle.fill_reach.specs.Spots.{Gains}
use Rattle.fill_reach.proofs.StepLaws.{CellsTo}
use Rattle.fill_reach.proofs.texts.push_cells.Given as goal

abbrev pub invariant-loop-row : goal.invariant-loop-row
invariant-loop-row l = Gains (map (λ text. text.now) l.initial.texts.items) (map (λ text. text.now) l.texts.items) (CellsTo l.tables l.rows l.depth l.row-index)
