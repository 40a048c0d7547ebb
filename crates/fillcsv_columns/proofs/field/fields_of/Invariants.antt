use Rattle.std.proofs.Common.{◌≡◌, take}
use Rattle.fillcsv_columns.proofs.field.fields_of.Given as goal

-- the fields so far
abbrev pub invariant-loop-i : goal.invariant-loop-i
invariant-loop-i l = l.fields.items ≡ take l.i l.row
