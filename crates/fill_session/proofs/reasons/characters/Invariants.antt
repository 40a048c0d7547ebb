use Rattle.std.proofs.Common.{◌≡◌, ◌≤◌, ◌*◌, length, take, sum_by}
use Rattle.fill_session.proofs.CellCounts.{cells_of}
use Rattle.fill_session.proofs.reasons.characters.Given as goal

abbrev pub invariant-loop-column : goal.invariant-loop-column
invariant-loop-column l =
    (l.sum ≡ sum_by length (take l.column-index (cells_of l.sheet l.row))) × (l.sum ≤ 2305843009213693951 * l.column-index)
