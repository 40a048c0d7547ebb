use Rattle.fill_object.specs.Bounds.{AreCosts}
use Rattle.fill_object.proofs.CostLaws.{AreFirstCosts}
use Rattle.fill_object.proofs.costs.edge_costs.Given as goal

abbrev pub invariant-loop-i : goal.invariant-loop-i
invariant-loop-i l = record {
  found : AreCosts l.prices l.arena l.memo;
  first : AreFirstCosts l.prices l.arena l.edges l.costs.items l.i;
}
