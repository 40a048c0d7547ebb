use Rattle.std.proofs.Common.{◌≡◌, ◌+◌, ◌++◌, drop}
use Rattle.fillcsv_columns.specs.Columns.{named}
use Rattle.fillcsv_columns.proofs.column.named.Given as goal

-- the columns so far, and those that are left
abbrev pub invariant-loop-i : goal.invariant-loop-i
invariant-loop-i l = l.columns.items ++ named l.word (l.i + 1) (drop l.i l.names) ≡ named l.word 1 l.names
