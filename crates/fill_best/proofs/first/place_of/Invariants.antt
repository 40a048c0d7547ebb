use Rattle.std.proofs.Common.{◌≡◌, ◌≤◌, length, drop}
use Rattle.std.specs.Prelude.{Contains}
use Rattle.std.specs.declared.cmp.Ordering.TheVariants.{Less}
use Rattle.fill_best.specs.Costs.{by_cost}
use Rattle.fill_best.specs.declared.costed.Costed.{Costed}
use Rattle.fill_best.proofs.first.place_of.Given as goal

abbrev pub invariant-loop-at : goal.invariant-loop-at
invariant-loop-at g l = record {
  within : l.at ≤ length l.ranking;
  high : (z : Costed g.row.T.Denot) → Contains (drop l.at l.ranking) z → by_cost g.T.Ordered.order l.next z ≡ Less;
}

abbrev pub decreases-loop-at : goal.decreases-loop-at
decreases-loop-at g l = l.at
