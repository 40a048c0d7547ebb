use Rattle.std.proofs.Common.{◌≡◌, ◌+◌, ◌*◌, ◌≤◌, length, drop, Some}
use Rattle.std.specs.Option.{IfSome}
use Rattle.fill_tree.specs.Cost.{atom_cost}
use Rattle.fill_tree.specs.declared.tree.Atom.{Atom}
use Rattle.fill_tree.specs.Meaning.{atom_tree, source_tree}
use Rattle.fill_arena.specs.Stands.{SourceFits, PartFits}
use Rattle.fill_rank.specs.Memo.{IsMemoOf}
use Rattle.fill_arena.specs.Best.{IsBestOf}
use Rattle.fill_tree.specs.Order.{atom_rank, source_rank}
use Rattle.fill_arena.specs.Contents.{SomeBelow}
use Rattle.fill_rank.specs.Sets.{AreBestRows}
use Rattle.fill_rank.proofs.sets.+sets.Given as goal

abbrev pub decreases-source_of : goal.decreases-source_of
decreases-source_of l = 8 * l.s + 7

abbrev pub decreases-scan_sources : goal.decreases-scan_sources
decreases-scan_sources l = 8 * l.s + 6

abbrev pub decreases-source_in : goal.decreases-source_in
decreases-source_in l = 8 * l.set + 5

abbrev pub decreases-lookup_in : goal.decreases-lookup_in
decreases-lookup_in l = 8 * l.set + 4

abbrev pub decreases-rows_of : goal.decreases-rows_of
decreases-rows_of l = 8 * l.set + 3

abbrev pub decreases-longer_rows : goal.decreases-longer_rows
decreases-longer_rows l = 8 * l.set + 2

abbrev pub decreases-part_of : goal.decreases-part_of
decreases-part_of l = 8 * l.s + 2

abbrev pub decreases-scan_parts : goal.decreases-scan_parts
decreases-scan_parts l = 8 * l.s + 1

abbrev pub decreases-part_in : goal.decreases-part_in
decreases-part_in l = 8 * l.set

abbrev pub invariant-scan_sources-loop-item : goal.invariant-scan_sources-loop-item
invariant-scan_sources-loop-item l = record {
  memo : IsMemoOf l.prices l.arena l.memo;
  best : IsBestOf source_tree (source_rank l.prices) (λ x. SomeBelow l.item-index l.items (λ y. SourceFits x l.arena y)) l.best;
}

abbrev pub invariant-scan_parts-loop-item : goal.invariant-scan_parts-loop-item
invariant-scan_parts-loop-item l = record {
  memo : IsMemoOf l.prices l.arena l.memo;
  best : IsBestOf atom_tree (atom_rank l.prices) (λ a. SomeBelow l.item-index l.items (λ y. PartFits l.arena y a)) l.best;
  cost : IfSome l.cost (λ n. (a : Atom) × (l.best ≡ Some a) × (n ≡ atom_cost l.prices (atom_tree a)));
}

abbrev pub invariant-rows_of-loop-left : goal.invariant-rows_of-loop-left
invariant-rows_of-loop-left l = record {
  within : l.left ≤ length l.items;
  memo : IsMemoOf l.prices l.arena l.memo;
  best : AreBestRows l.prices l.arena (drop l.left l.items) l.rows;
}

abbrev pub decreases-rows_of-loop-left : goal.decreases-rows_of-loop-left
decreases-rows_of-loop-left l = l.left
