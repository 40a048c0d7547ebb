use Rattle.std.proofs.Common.{◌≡◌, ◌<◌}
use Rattle.fill_reach.specs.Spots.{AddsRows, IsSpot}
use Rattle.fill_reach.proofs.rows.push_table.Given as goal

abbrev pub invariant-loop-key : goal.invariant-loop-key
invariant-loop-key l = AddsRows l.initial.rows.items l.rows.items (λ s. (s.table ≡ l.table) × (s.key < l.key) × IsSpot l.tables s)
