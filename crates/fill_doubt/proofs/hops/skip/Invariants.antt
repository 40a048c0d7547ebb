use Rattle.fill_doubt.specs.Hops.{AreLess}
use Rattle.fill_doubt.proofs.hops.skip.Given as goal

abbrev pub invariant-loop-i : goal.invariant-loop-i
invariant-loop-i l = AreLess l.set l.i l.k
