use Rattle.std.proofs.Common.{◌≡◌, ◌+◌, ◌*◌, ℕ, List, [], length, map, take, Some, slice_get}
use Rattle.fill_text.specs.Data.{nth, table_row_at}
use Rattle.fill_arena.specs.Contents.{Extends}
use Rattle.fill_sources.specs.Gives.{at_depth}
use Rattle.fill_sources.specs.Origins.{texts_in}
use Rattle.fill_sources.specs.Readers.{AddsAtoms, AddsSources, ReadsFirst}
use Rattle.fill_sources.specs.Sets.{AreConditions, GivesFirst, IsRight}
use Rattle.fill_sources.proofs.+sources.Given as goal

-- a set of a depth is made of sets of the depth before
abbrev pub decreases-sources::sources_at : goal.decreases-sources::sources_at
decreases-sources::sources_at l = 10 * l.depth + 4

abbrev pub decreases-sources::source_items : goal.decreases-sources::source_items
decreases-sources::source_items l = 10 * l.depth + 3

abbrev pub decreases-sources::put_origin : goal.decreases-sources::put_origin
decreases-sources::put_origin l = 10 * l.depth + 2

abbrev pub decreases-sources::put_lookups : goal.decreases-sources::put_lookups
decreases-sources::put_lookups l = 10 * l.depth + 1

abbrev pub decreases-sources::conditions : goal.decreases-sources::conditions
decreases-sources::conditions l = 10 * l.depth + 9

abbrev pub decreases-sources::condition : goal.decreases-sources::condition
decreases-sources::condition l = 10 * l.depth + 8

abbrev pub decreases-parts::parts_at : goal.decreases-parts::parts_at
decreases-parts::parts_at l = 10 * l.depth + 7

abbrev pub decreases-parts::part_items : goal.decreases-parts::part_items
decreases-parts::part_items l = 10 * l.depth + 6

abbrev pub decreases-parts::put_readers : goal.decreases-parts::put_readers
decreases-parts::put_readers l = 10 * l.depth + 5

abbrev pub invariant-parts::part_items-loop-i : goal.invariant-parts::part_items-loop-i
invariant-parts::part_items-loop-i l = record {
  extends : Extends l.initial.arena l.arena;
  memo : IsRight l.look.on.now (texts_in l.look.texts.now) l.arena l.memo;
  adds : AddsAtoms l.arena [] l.items (ReadsFirst (at_depth l.look.on.now l.depth) (texts_in l.look.texts.now) l.spots l.i (length l.w));
}

abbrev pub invariant-sources::conditions-loop-i : goal.invariant-sources::conditions-loop-i
invariant-sources::conditions-loop-i l = record {
  extends : Extends l.initial.arena l.arena;
  memo : IsRight l.look.on.now (texts_in l.look.texts.now) l.arena l.memo;
  made : (cells : List (List ℕ)) × (rows : List (List ℕ)) × (table_row_at l.look.on.now.tables.now l.at.table l.at.row ≡ Some rows) × (map (nth rows) (take l.i l.key) ≡ map Some cells)
      × AreConditions (at_depth l.look.on.now l.depth) l.arena cells l.items;
}

abbrev pub invariant-sources::source_items-loop-i : goal.invariant-sources::source_items-loop-i
invariant-sources::source_items-loop-i l = record {
  extends : Extends l.initial.arena l.arena;
  memo : IsRight l.look.on.now (texts_in l.look.texts.now) l.arena l.memo;
  adds : (v : List ℕ) → slice_get (texts_in l.look.texts.now) l.k ≡ Some v → AddsSources l.arena [] l.items (GivesFirst (at_depth l.look.on.now l.depth) v l.origins l.i);
}
