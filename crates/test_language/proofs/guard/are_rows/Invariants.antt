use Rattle.std.proofs.Common.{take}
use Rattle.std.specs.List.{All}
use Rattle.fill_guard.specs.Read.{IsRowOf}
use Rattle.test_language.proofs.guard.are_rows.Given as goal

abbrev pub invariant-loop-row : goal.invariant-loop-row
invariant-loop-row l = All (IsRowOf l.sheet) (take l.row-index l.rows)
