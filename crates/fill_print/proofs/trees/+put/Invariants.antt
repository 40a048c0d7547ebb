use Rattle.std.proofs.Common.{◌≡◌, ◌++◌, drop, map}
use Rattle.fill_tree.specs.Meaning.{atom_tree}
use Rattle.fill_tree.specs.Tree.{atoms_of}
use Rattle.fill_print.specs.Notation.{after_commas}
use Rattle.fill_print.proofs.trees.+put.Given as goal

-- what is put, before the atoms that are left
abbrev pub invariant-put_after_commas-loop-atom : goal.invariant-put_after_commas-loop-atom
invariant-put_after_commas-loop-atom l =
    l.to ++ after_commas (atoms_of (map atom_tree (drop l.atom-index l.atoms))) ≡ l.fn.to ++ after_commas (atoms_of (map atom_tree l.atoms))
