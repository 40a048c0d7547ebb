use Rattle.std.proofs.Common.{◌≡◌, ◌-◌, ◌≤◌, length, drop}
use Rattle.fill_rank.specs.Memo.{IsMemoOf}
use Rattle.fill_rank.specs.Sets.{AreBestRests}
use Rattle.fill_rank.proofs.graph.least.Given as goal

abbrev pub invariant-loop-left : goal.invariant-loop-left
invariant-loop-left l = record {
  within : l.left ≤ length l.edges;
  memo : IsMemoOf l.prices l.arena l.memo;
  nodes : length l.rests.items ≡ length l.initial.rests.items;
  best : AreBestRests l.prices l.arena (drop l.left l.edges) (length l.initial.rests.items - 1) l.rests.items;
}

abbrev pub decreases-loop-left : goal.decreases-loop-left
decreases-loop-left l = l.left
