use Rattle.fill_tree.specs.Cost.{atom_cost}
use Rattle.fill_arena.specs.Contents.{SomeBelow}
use Rattle.fill_arena.specs.Stands.{AtomFits}
use Rattle.fill_rank.specs.LowerBounds.{AreBounds, IsLowerBound}
use Rattle.fill_rank.proofs.bounds.Bounds.of_set.Given as goal

abbrev pub invariant-loop-item : goal.invariant-loop-item
invariant-loop-item l = record {
  bounds : AreBounds l.prices l.arena l.self;
  least : IsLowerBound (atom_cost l.prices) (λ a. SomeBelow l.item-index l.item-items (λ x. AtomFits a l.arena x)) l.least;
}
