use Rattle.std.proofs.Common.{◌≡◌, ◌-◌, ◌≤◌, length, drop}
use Rattle.fill_best.specs.Memo.{IsMemoOf}
use Rattle.fill_best.specs.Rests.{AreFirstRests}
use Rattle.fill_best.proofs.graph.best.Given as goal

abbrev pub invariant-loop-to_go : goal.invariant-loop-to_go
invariant-loop-to_go l = record {
  within : l.to_go ≤ length l.edges;
  memo : IsMemoOf l.prices l.arena l.limit l.memo;
  nodes : length l.rests.items ≡ length l.initial.rests.items;
  first : AreFirstRests l.prices l.arena (drop l.to_go l.edges) (length l.initial.rests.items - 1) l.limit l.rests.items;
}

abbrev pub decreases-loop-to_go : goal.decreases-loop-to_go
decreases-loop-to_go l = l.to_go
