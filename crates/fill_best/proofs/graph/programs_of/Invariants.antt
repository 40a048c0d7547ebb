use Rattle.std.proofs.Common.{◌≡◌, map}
use Rattle.fill_tree.specs.Meaning.{program_tree}
use Rattle.fill_tree.specs.Tree.{Atoms}
use Rattle.fill_best.specs.declared.costed.Costed.{Costed}
use Rattle.fill_best.proofs.graph.programs_of.Given as goal

abbrev pub invariant-loop-rest : goal.invariant-loop-rest
invariant-loop-rest l = map program_tree l.programs ≡ map (λ (rest : Costed Atoms). rest.item) l.yielded
