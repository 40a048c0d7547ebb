use Rattle.std.proofs.Common.{◌≡◌, map, drop}
use Rattle.fill_tree.specs.Meaning.{atom_tree}
use Rattle.fill_tree.specs.Order.{atoms_cmp}
use Rattle.fill_tree.specs.Tree.{atoms_of}
use Rattle.fill_tree.proofs.+compare.Given as goal

-- what is left decides
abbrev pub invariant-order::compare_atoms-loop-i : goal.invariant-order::compare_atoms-loop-i
invariant-order::compare_atoms-loop-i l =
    atoms_cmp (atoms_of (map atom_tree (drop l.i l.a))) (atoms_of (map atom_tree (drop l.i l.b)))
    ≡ atoms_cmp (atoms_of (map atom_tree l.a)) (atoms_of (map atom_tree l.b))
