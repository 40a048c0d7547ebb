use Rattle.fill_tree.specs.Meaning.{atom_tree}
use Rattle.fill_arena.specs.Best.{IsBestOf}
use Rattle.fill_tree.specs.Order.{atom_rank}
use Rattle.fill_arena.specs.Contents.{SomeBelow}
use Rattle.fill_arena.specs.Stands.{ConstantFits}
use Rattle.fill_rank.proofs.sets.constant_of.Given as goal

abbrev pub invariant-loop-item : goal.invariant-loop-item
invariant-loop-item l = IsBestOf atom_tree (atom_rank l.prices) (λ a. SomeBelow l.item-index l.item-items (λ x. ConstantFits l.arena x a)) l.best
