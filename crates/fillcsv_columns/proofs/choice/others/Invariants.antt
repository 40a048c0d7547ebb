use Rattle.std.proofs.Common.{◌≡◌, ◌≤◌, ◌+◌, ◌-◌, ◌==◌, ◌++◌, not, filter, length, take, min}
use Rattle.std.specs.List.{range_with_len}
use Rattle.fillcsv_columns.proofs.choice.others.Given as goal

-- the columns so far, and those that are left, of which eight are taken
abbrev pub invariant-loop-column : goal.invariant-loop-column
invariant-loop-column l = record {
  rest : take 8 (l.from.items ++ filter (λ n. not (n == l.to)) (range_with_len l.column (l.last + 1 - l.column)))
      ≡ take 8 (filter (λ n. not (n == l.to)) (range_with_len 1 (min l.width 1000)));
  few : length l.from.items ≤ 8;
  last : l.last ≡ min l.width 1000;
  first : 1 ≤ l.column;
}
