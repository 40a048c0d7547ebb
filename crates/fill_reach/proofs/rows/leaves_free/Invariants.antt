use Rattle.std.proofs.Common.{◌≤◌, ◌<◌, ℕ}
use Rattle.fill_reach.specs.Spots.{IsFree}
use Rattle.fill_reach.proofs.rows.leaves_free.Given as goal

abbrev pub invariant-loop-column : goal.invariant-loop-column
invariant-loop-column l = (c : ℕ) → 1 ≤ c → c < l.column → ¬ (IsFree l.tables l.table l.key c)
