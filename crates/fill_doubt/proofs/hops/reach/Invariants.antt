use Rattle.fill_doubt.specs.Hops.{AreLessThanRest, AreReachedBelow}
use Rattle.fill_doubt.proofs.hops.reach.Given as goal

abbrev pub invariant-loop-i : goal.invariant-loop-i
invariant-loop-i l = record {
  passed : AreLessThanRest l.set l.passed l.from l.i;
  out : AreReachedBelow l.set l.from l.to l.i l.out.items;
}
