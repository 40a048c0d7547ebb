use Rattle.std.proofs.Common.{◌+◌, ◌*◌, ◌≤◌, length, drop}
use Rattle.fill_tree.specs.Cost.{source_cost, atom_cost}
use Rattle.fill_tree.specs.Order.{source_cmp, atom_cmp}
use Rattle.fill_arena.specs.Stands.{SourceFits, PartFits}
use Rattle.fill_arena.specs.Contents.{SomeBelow}
use Rattle.fill_best.specs.Cheapest.{TakesIn}
use Rattle.fill_best.specs.Memo.{IsMemoOf}
use Rattle.fill_best.specs.Rows.{AreFirstRows}
use Rattle.fill_best.proofs.sets.+sets.Given as goal

abbrev pub decreases-sources_of : goal.decreases-sources_of
decreases-sources_of l = 16 * l.s + 12

abbrev pub decreases-scan_sources : goal.decreases-scan_sources
decreases-scan_sources l = 16 * l.s + 11

abbrev pub decreases-put_source : goal.decreases-put_source
decreases-put_source l = 16 * l.set + 10

abbrev pub decreases-put_lookups : goal.decreases-put_lookups
decreases-put_lookups l = 16 * l.set + 9

abbrev pub decreases-rows_of : goal.decreases-rows_of
decreases-rows_of l = 16 * l.set + 8

abbrev pub decreases-longer_rows : goal.decreases-longer_rows
decreases-longer_rows l = 16 * l.set + 7

abbrev pub decreases-conditions_of : goal.decreases-conditions_of
decreases-conditions_of l = 16 * l.set + 6

abbrev pub decreases-parts_of : goal.decreases-parts_of
decreases-parts_of l = 16 * l.s + 5

abbrev pub decreases-scan_parts : goal.decreases-scan_parts
decreases-scan_parts l = 16 * l.s + 4

abbrev pub decreases-put_parts : goal.decreases-put_parts
decreases-put_parts l = 16 * l.set + 3

abbrev pub invariant-scan_sources-loop-item : goal.invariant-scan_sources-loop-item
invariant-scan_sources-loop-item l = record {
  memo : IsMemoOf l.prices l.arena l.limit l.memo;
  first : TakesIn (source_cost l.prices) source_cmp (λ x. SomeBelow l.item-index l.items (λ y. SourceFits x l.arena y)) l.limit l.initial.ranking.items l.ranking.items;
}

abbrev pub invariant-scan_parts-loop-item : goal.invariant-scan_parts-loop-item
invariant-scan_parts-loop-item l = record {
  memo : IsMemoOf l.prices l.arena l.limit l.memo;
  first : TakesIn (atom_cost l.prices) atom_cmp (λ a. SomeBelow l.item-index l.items (λ y. PartFits l.arena y a)) l.limit l.initial.ranking.items l.ranking.items;
}

abbrev pub invariant-rows_of-loop-left : goal.invariant-rows_of-loop-left
invariant-rows_of-loop-left l = record {
  within : l.left ≤ length l.items;
  memo : IsMemoOf l.prices l.arena l.limit l.memo;
  first : AreFirstRows l.prices l.arena (drop l.left l.items) l.limit l.rows;
}

abbrev pub decreases-rows_of-loop-left : goal.decreases-rows_of-loop-left
decreases-rows_of-loop-left l = l.left
