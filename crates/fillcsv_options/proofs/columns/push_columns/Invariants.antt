use Rattle.std.proofs.Common.{◌≡◌, ◌++◌, map, string_bytes}
use Rattle.fillcsv_options.proofs.columns.push_columns.Given as goal

abbrev pub invariant-loop-column : goal.invariant-loop-column
invariant-loop-column l = map string_bytes l.columns.items ≡ map string_bytes l.initial.columns.items ++ map (λ x. x.now) l.yielded
