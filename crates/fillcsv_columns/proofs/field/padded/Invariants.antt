use Rattle.std.proofs.Common.{◌≡◌, ◌≤◌, ◌-◌, ◌++◌, [], length, replicate}
use Rattle.fillcsv_columns.proofs.field.padded.Given as goal

-- the fields, and the empty ones so far
abbrev pub invariant-loop : goal.invariant-loop
invariant-loop l = record {
  padded : l.fields.items ≡ l.initial.fields.items ++ replicate (l.counter - length l.initial.fields.items) [];
  within : l.counter - length l.initial.fields.items ≤ l.column - length l.initial.fields.items;
}
