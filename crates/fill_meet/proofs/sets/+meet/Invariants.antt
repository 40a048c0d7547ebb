use Rattle.std.proofs.Common.{◌≡◌, ◌+◌, ◌*◌, length}
use Rattle.fill_arena.specs.Contents.{EachIn, Extends}
use Rattle.fill_arena.specs.WellMade.{IsConditionItem}
use Rattle.fill_meet.specs.Memory.{IsRight}
use Rattle.fill_meet.specs.Sets.{ArePaired, NamesOlder, PairsState, RowsMeet, SourceIn}
use Rattle.fill_meet.proofs.sets.+meet.Given as goal

-- what a set lists is older than the set
abbrev pub decreases-meet_atoms : goal.decreases-meet_atoms
decreases-meet_atoms l = 8 * l.s + 7

abbrev pub decreases-meet_sources : goal.decreases-meet_sources
decreases-meet_sources l = 8 * l.s + 7

abbrev pub decreases-make_atoms : goal.decreases-make_atoms
decreases-make_atoms l = 8 * l.s + 6

abbrev pub decreases-make_sources : goal.decreases-make_sources
decreases-make_sources l = 8 * l.s + 6

abbrev pub decreases-meet_atom_row : goal.decreases-meet_atom_row
decreases-meet_atom_row l = 8 * l.s + 5

abbrev pub decreases-meet_source_row : goal.decreases-meet_source_row
decreases-meet_source_row l = 8 * l.of + 5

abbrev pub decreases-meet_atom_items : goal.decreases-meet_atom_items
decreases-meet_atom_items l = 8 * l.s + 4

abbrev pub decreases-meet_source_items : goal.decreases-meet_source_items
decreases-meet_source_items l = 8 * l.of + 4

abbrev pub decreases-meet_selects : goal.decreases-meet_selects
decreases-meet_selects l = 8 * l.of + 3

abbrev pub decreases-meet_conditions : goal.decreases-meet_conditions
decreases-meet_conditions l = 8 * l.of + 2

abbrev pub decreases-meet_condition : goal.decreases-meet_condition
decreases-meet_condition l = 8 * l.of + 1

abbrev pub decreases-meet_parts : goal.decreases-meet_parts
decreases-meet_parts l = 8 * l.of

abbrev pub invariant-make_atoms-loop-i : goal.invariant-make_atoms-loop-i
invariant-make_atoms-loop-i l =
    record {
      extends : Extends l.initial.arena l.arena;
      memo : IsRight l.arena l.memo;
      paired : ArePaired l.arena l.s l.t l.i 0 l.zs;
    }

abbrev pub invariant-make_sources-loop-i : goal.invariant-make_sources-loop-i
invariant-make_sources-loop-i l =
    record {
      extends : Extends l.initial.arena l.arena;
      memo : IsRight l.arena l.memo;
      pairs : PairsState SourceIn NamesOlder l.arena l.s l.xs l.ys l.i 0 l.zs;
    }

abbrev pub invariant-meet_atom_row-loop-j : goal.invariant-meet_atom_row-loop-j
invariant-meet_atom_row-loop-j l =
    record {
      extends : Extends l.initial.arena l.arena;
      memo : IsRight l.arena l.memo;
      paired : ArePaired l.arena l.s l.t l.i l.j l.zs;
    }

abbrev pub invariant-meet_source_row-loop-j : goal.invariant-meet_source_row-loop-j
invariant-meet_source_row-loop-j l =
    record {
      extends : Extends l.initial.arena l.arena;
      memo : IsRight l.arena l.memo;
      pairs : PairsState SourceIn NamesOlder l.arena l.of l.xs l.ys l.i l.j l.zs;
    }

abbrev pub invariant-meet_conditions-loop-i : goal.invariant-meet_conditions-loop-i
invariant-meet_conditions-loop-i l =
    record {
      extends : Extends l.initial.arena l.arena;
      memo : IsRight l.arena l.memo;
      first : EachIn (IsConditionItem l.arena l.of) l.xs;
      second : EachIn (IsConditionItem l.arena (length l.arena)) l.ys;
      long : length l.zs ≡ l.i;
      rows : RowsMeet l.arena l.xs l.ys l.zs;
    }
