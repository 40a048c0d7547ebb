use Rattle.std.proofs.Common.{◌≤◌}
use Rattle.fill_tree.specs.Cost.{atom_cost}
use Rattle.fill_tree.specs.Tree.{AtomTree}
use Rattle.fill_arena.specs.Stands.{AtomFits}
use Rattle.fill_object.specs.Bounds.{AreCosts}
use Rattle.fill_object.proofs.Below.{EachBelow}
use Rattle.fill_object.proofs.costs.Costs.of_atoms.Given as goal

abbrev pub invariant-loop-item : goal.invariant-loop-item
invariant-loop-item l = record {
  memo : AreCosts l.prices l.arena l.self;
  costs : EachBelow (λ i. (a : AtomTree) → AtomFits a l.arena i → l.least ≤ atom_cost l.prices a) l.items l.item-index;
}
