use Rattle.std.proofs.Common.{◌≡◌, ℕ, ◌-◌, ◌%◌, List, length, Some, slice_get}
use Rattle.fill_arena.specs.Contents.{Extends}
use Rattle.fill_meet.specs.Groups.{AreGroups}
use Rattle.fill_meet.specs.Guides.{IsMadeTo, IsSharedOf, IsTask}
use Rattle.fill_meet.specs.Memory.{IsRight}
use Rattle.fill_meet.specs.Runs.{Grows}
use Rattle.fill_meet.proofs.RowLaws.{EntriesBelow}
use Rattle.fill_meet.proofs.makes.make_alike.Given as goal

abbrev pub invariant-loop-e : goal.invariant-loop-e
invariant-loop-e l =
    record {
      extends : Extends l.initial.arena l.arena;
      memo : IsRight l.arena l.memo;
      task : IsTask l.arena l.task;
      made : IsMadeTo l.arena l.task l.task.place l.zs;
      grown : Grows l.initial.zs l.zs;
      group : (keys : List ℕ) → AreGroups keys l.task.guide.now.index.groups → (v : ℕ) → slice_get keys l.e ≡ Some v → v ≡ l.hash % length l.task.guide.now.index.groups.firsts.items;
      below : EntriesBelow l.arena l.task.guide.now.index (IsSharedOf l.arena l.task l.zs) l.hash l.e;
    }

abbrev pub decreases-loop-e : goal.decreases-loop-e
decreases-loop-e l = length l.task.guide.now.index.items.items - l.e
