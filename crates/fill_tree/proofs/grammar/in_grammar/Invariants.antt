use Rattle.std.proofs.Common.{◌↔◌, map, drop}
use Rattle.fill_tree.specs.Meaning.{atom_tree, program_tree}
use Rattle.fill_tree.specs.Grammar.{InGrammar}
use Rattle.fill_tree.specs.Tree.{atoms_of}
use Rattle.fill_tree.proofs.grammar.in_grammar.Given as goal

-- what is left decides
abbrev pub invariant-loop-atom : goal.invariant-loop-atom
invariant-loop-atom l =
    InGrammar l.settings l.sheet l.tables (atoms_of (map atom_tree (drop l.atom-index l.atom-items)))
    ↔ InGrammar l.settings l.sheet l.tables (program_tree l.p)
