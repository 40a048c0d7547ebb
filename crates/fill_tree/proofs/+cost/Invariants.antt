use Rattle.std.proofs.Common.{◌≡◌, ◌+◌, map, drop}
use Rattle.fill_tree.specs.Meaning.{atom_tree}
use Rattle.fill_tree.specs.Cost.{conditions_cost}
use Rattle.fill_tree.specs.Tree.{atoms_of}
use Rattle.fill_tree.proofs.+cost.Given as goal

abbrev pub invariant-cost::conditions_cost-loop-atom : goal.invariant-cost::conditions_cost-loop-atom
invariant-cost::conditions_cost-loop-atom l =
    l.total + conditions_cost l.prices (atoms_of (map atom_tree (drop l.atom-index l.atoms))) ≡ conditions_cost l.prices (atoms_of (map atom_tree l.atoms))
