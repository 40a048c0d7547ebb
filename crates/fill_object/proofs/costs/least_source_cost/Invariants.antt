use Rattle.std.proofs.Common.{◌≤◌, List}
use Rattle.fill_tree.specs.Cost.{source_cost}
use Rattle.fill_tree.specs.Tree.{SourceTree}
use Rattle.fill_arena.specs.Stands.{SourceFits}
use Rattle.fill_arena.specs.declared.entry.Entry.{Entry}
use Rattle.fill_object.proofs.Below.{EachBelow}
use Rattle.fill_object.proofs.costs.least_source_cost.Given as goal

abbrev pub invariant-loop-item : goal.invariant-loop-item
invariant-loop-item l = (c : List Entry) → EachBelow (λ i. (x : SourceTree) → SourceFits x c i → l.least ≤ source_cost l.prices x) l.items l.item-index
