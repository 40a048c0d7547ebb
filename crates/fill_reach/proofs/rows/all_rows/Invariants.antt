use Rattle.std.proofs.Common.{◌<◌}
use Rattle.fill_reach.specs.Spots.{AddsRows, IsSpot}
use Rattle.fill_reach.proofs.rows.all_rows.Given as goal

abbrev pub invariant-loop-table : goal.invariant-loop-table
invariant-loop-table l = AddsRows l.initial.rows.items l.rows.items (λ s. (s.table < l.table) × IsSpot l.tables s)
