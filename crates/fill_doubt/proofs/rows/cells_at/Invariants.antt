use Rattle.std.proofs.Common.{◌≡◌, ℕ, List, map, take}
use Rattle.fill_tables.specs.Keys.{IsKeyedRow}
use Rattle.fill_doubt.proofs.rows.cells_at.Given as goal

abbrev pub invariant-loop-i : goal.invariant-loop-i
invariant-loop-i l = (ts : List (List ℕ)) → IsKeyedRow l.look.tables.now l.look.item.now.table l.look.item.now.key ts l.row → take l.i ts ≡ map (λ cell. cell.now) l.cells.items
