use Rattle.std.proofs.Common.{◌≡◌, ◌++◌, drop, flat_map, map, string_bytes}
use Rattle.fillcsv_options.specs.Words.{columns_in}
use Rattle.fillcsv_options.proofs.columns.columns_of.Given as goal

abbrev pub invariant-loop-list : goal.invariant-loop-list
invariant-loop-list l =
    map string_bytes l.columns.items ++ flat_map columns_in (map (λ x. x.now) (drop l.list-index l.lists)) ≡ flat_map columns_in (map (λ x. x.now) l.lists)
