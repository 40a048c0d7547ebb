use Rattle.std.proofs.Common.{◌≡◌, ◌+◌, ◌-◌, ◌*◌, length, map, drop, Some, slice_get}
use Rattle.fill_tree.specs.Meaning.{atom_tree}
use Rattle.fill_tree.specs.Tree.{atoms_of}
use Rattle.fill_tree.specs.declared.tree.Atom.{Atom}
use Rattle.fill_arena.specs.Stands.{AtomStands, Walks}
use Rattle.fill_arena.proofs.Scan.{NoneBelow}
use Rattle.fill_arena.proofs.holds.+walks.Given as goal

abbrev pub decreases-walks : goal.decreases-walks
decreases-walks l = 2 * (length l.atoms.now - l.next) + 1

abbrev pub decreases-leads : goal.decreases-leads
decreases-leads l = 2 * (length l.atoms.now - l.next)

abbrev pub invariant-walks-loop-i : goal.invariant-walks-loop-i
invariant-walks-loop-i l = (a : Atom) → slice_get l.atoms l.next ≡ Some a →
    NoneBelow (λ e. (e.from ≡ l.at) × AtomStands l.arena e.atoms (atom_tree a) × Walks (atoms_of (map atom_tree (drop (l.next + 1) l.atoms))) l.arena l.edges l.last e.to) l.edges l.i
