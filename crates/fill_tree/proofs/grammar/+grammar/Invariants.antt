use Rattle.std.proofs.Common.{◌↔◌, map, drop}
use Rattle.fill_tree.specs.Meaning.{atom_tree}
use Rattle.fill_tree.specs.Grammar.{AreConditions}
use Rattle.fill_tree.specs.Tree.{atoms_of}
use Rattle.fill_tree.proofs.grammar.+grammar.Given as goal

-- what is left decides
abbrev pub invariant-are_conditions-loop-atom : goal.invariant-are_conditions-loop-atom
invariant-are_conditions-loop-atom l =
    AreConditions l.settings l.sheet l.tables (atoms_of (map atom_tree (drop l.atom-index l.atoms)))
    ↔ AreConditions l.settings l.sheet l.tables (atoms_of (map atom_tree l.atoms))
