use Rattle.std.proofs.Common.{◌≡◌, ◌∷◌, map, take}
use Rattle.fill_tree.specs.Meaning.{atom_tree}
use Rattle.fill_tree.proofs.tree.Program.with_first.Given as goal

abbrev pub invariant-loop-next : goal.invariant-loop-next
invariant-loop-next l = map atom_tree l.atoms ≡ atom_tree l.atom ∷ map atom_tree (take l.next-index l.self.atoms)
