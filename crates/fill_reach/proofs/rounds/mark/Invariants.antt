use Rattle.std.proofs.Common.{◌≡◌, ◌≤◌, ◌<◌, ℕ, length, map, get_or, Contains}
use Rattle.fill_reach.specs.Marks.{IsMarkedAs}
use Rattle.fill_reach.specs.declared.rows.ReachedRow.{ReachedRow}
use Rattle.fill_reach.proofs.rounds.mark.Given as goal

abbrev pub invariant-loop-row : goal.invariant-loop-row
invariant-loop-row l = record {
  size : length l.rows ≡ length l.initial.rows;
  done : (k : ℕ) (r : ReachedRow) → k < l.row-index → IsMarkedAs l.tables (Contains (map (λ text. text.now) l.texts)) l.depth (get_or l.initial.rows k r) (get_or l.rows k r);
  left : (k : ℕ) (r : ReachedRow) → l.row-index ≤ k → get_or l.rows k r ≡ get_or l.initial.rows k r;
}
