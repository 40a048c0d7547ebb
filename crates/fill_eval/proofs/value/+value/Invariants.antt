use Rattle.std.proofs.Common.{map, drop}
use Rattle.fill_tree.specs.Tree.{atoms_of}
use Rattle.fill_tree.specs.Meaning.{atom_tree}
use Rattle.fill_tree.specs.Value.{ConditionsAre}
use Rattle.fill_eval.proofs.Values.{IsAfter}
use Rattle.fill_eval.proofs.value.+value.Given as goal

abbrev pub invariant-condition_texts-loop-condition : goal.invariant-condition_texts-loop-condition
invariant-condition_texts-loop-condition l =
    IsAfter (map (λ cell. cell.now) l.cells.items) (ConditionsAre l.sheet l.tables l.row (atoms_of (map atom_tree (drop l.condition-index l.conditions))))
    (ConditionsAre l.sheet l.tables l.row (atoms_of (map atom_tree l.conditions)))
