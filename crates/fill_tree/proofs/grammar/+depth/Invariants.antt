use Rattle.std.proofs.Common.{◌↔◌, ◌+◌, ◌≤◌, map, drop}
use Rattle.fill_tree.specs.Meaning.{atom_tree, select_tree}
use Rattle.fill_tree.specs.Grammar.{greatest_depth, source_depth}
use Rattle.fill_tree.specs.Tree.{atoms_of}
use Rattle.fill_tree.proofs.grammar.+depth.Given as goal

-- what is left decides
abbrev pub invariant-is_select_no_deeper-loop-condition : goal.invariant-is_select_no_deeper-loop-condition
invariant-is_select_no_deeper-loop-condition l =
    (1 + greatest_depth (atoms_of (map atom_tree (drop l.condition-index l.condition-items))) ≤ l.limit)
    ↔ (source_depth (select_tree l.select) ≤ l.limit)
