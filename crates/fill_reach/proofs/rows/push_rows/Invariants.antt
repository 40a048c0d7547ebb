use Rattle.std.proofs.Common.{◌≡◌, ◌<◌}
use Rattle.fill_reach.specs.Spots.{AddsRows, IsSpot}
use Rattle.fill_reach.proofs.rows.push_rows.Given as goal

abbrev pub invariant-loop-row : goal.invariant-loop-row
invariant-loop-row l = AddsRows l.initial.rows.items l.rows.items (λ s. (s.table ≡ l.table) × (s.key ≡ l.key) × (s.row < l.row) × IsSpot l.tables s)
