use Rattle.fill_arena.proofs.Scan.{NoneBelow}
use Rattle.fill_build.specs.Edges.{IsBetween}
use Rattle.fill_build.proofs.edges.set_between.Given as goal

abbrev pub invariant-loop-i : goal.invariant-loop-i
invariant-loop-i l = NoneBelow (IsBetween l.from l.to) l.edges l.i
