use Rattle.std.proofs.Common.{◌≡◌, map, take}
use Rattle.fill_tree.specs.Meaning.{atom_tree}
use Rattle.fill_tree.proofs.+copy.Given as goal

abbrev pub invariant-copy::copy_atoms-loop-atom : goal.invariant-copy::copy_atoms-loop-atom
invariant-copy::copy_atoms-loop-atom l = map atom_tree l.copied ≡ map atom_tree (take l.atom-index l.atoms)
