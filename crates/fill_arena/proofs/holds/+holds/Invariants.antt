use Rattle.std.proofs.Common.{◌↔◌, map, drop}
use Rattle.fill_tree.specs.Meaning.{atom_tree, source_tree}
use Rattle.fill_tree.specs.Tree.{atoms_of}
use Rattle.fill_arena.specs.Stands.{AtomFits, SourceFits, ConditionsFit}
use Rattle.fill_arena.proofs.Scan.{NoneBelow}
use Rattle.fill_arena.proofs.holds.+holds.Given as goal

abbrev pub invariant-atom_stands-loop-item : goal.invariant-atom_stands-loop-item
invariant-atom_stands-loop-item l = NoneBelow (AtomFits (atom_tree l.atom) l.arena) l.items l.item-index

abbrev pub invariant-source_stands-loop-item : goal.invariant-source_stands-loop-item
invariant-source_stands-loop-item l = NoneBelow (SourceFits (source_tree l.source) l.arena) l.items l.item-index

-- what is left decides
abbrev pub invariant-conditions_fit-loop-i : goal.invariant-conditions_fit-loop-i
invariant-conditions_fit-loop-i l =
    ConditionsFit (atoms_of (map atom_tree (drop l.i l.conditions))) l.arena (drop l.i l.items) ↔ ConditionsFit (atoms_of (map atom_tree l.conditions)) l.arena l.items
