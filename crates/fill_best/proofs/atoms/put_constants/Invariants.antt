use Rattle.std.proofs.Common.{List}
use Rattle.fill_tree.specs.Cost.{atom_cost}
use Rattle.fill_tree.specs.Order.{atom_cmp}
use Rattle.fill_arena.specs.declared.entry.Entry.{Entry}
use Rattle.fill_arena.specs.Contents.{SomeBelow}
use Rattle.fill_arena.specs.Stands.{ConstantFits}
use Rattle.fill_best.specs.Cheapest.{TakesIn}
use Rattle.fill_best.proofs.atoms.put_constants.Given as goal

abbrev pub invariant-loop-item : goal.invariant-loop-item
invariant-loop-item l = (c : List Entry) → TakesIn (atom_cost l.prices) atom_cmp (λ a. SomeBelow l.item-index l.items (λ y. ConstantFits c y a)) l.limit l.initial.ranking.items l.ranking.items
