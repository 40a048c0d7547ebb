use Rattle.fill_build.specs.Nodes.{IsTwin}
use Rattle.fill_build.proofs.node.find_twin.Given as goal

abbrev pub invariant-loop-k : goal.invariant-loop-k
invariant-loop-k l = IsTwin l.text l.from l.twin
