use Rattle.fill_build.specs.Edges.{TakesEdges}
use Rattle.fill_build.proofs.edges.take_edges.Given as goal

abbrev pub invariant-loop-done : goal.invariant-loop-done
invariant-loop-done l = TakesEdges l.node l.done l.initial.edges l.edges
