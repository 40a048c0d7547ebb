use Rattle.std.proofs.Common.{◌≡◌, ◌+◌, ◌++◌, drop}
use Rattle.csv.specs.Records.{fields_of}
use Rattle.fillcsv_columns.specs.Columns.{named}
use Rattle.fillcsv_rule_runs.proofs.places.named.Given as goal

-- the columns so far, and those that are left
abbrev pub invariant-loop-i : goal.invariant-loop-i
invariant-loop-i l = l.columns.items ++ named l.name (l.i + 1) (drop l.i (fields_of l.header)) ≡ named l.name 1 (fields_of l.header)
