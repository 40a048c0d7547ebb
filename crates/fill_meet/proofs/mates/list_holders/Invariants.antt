use Rattle.std.proofs.Common.{◌≡◌, ℕ, ◌-◌, ◌%◌, ◌≤◌, List, length, Some, slice_get}
use Rattle.fill_meet.specs.Groups.{AreGroups}
use Rattle.fill_meet.specs.Runs.{Grows}
use Rattle.fill_meet.proofs.MateLaws.{PutBelow}
use Rattle.fill_meet.proofs.mates.list_holders.Given as goal

abbrev pub invariant-loop-e : goal.invariant-loop-e
invariant-loop-e l =
    record {
      start : l.start ≤ length l.lists.numbers.items;
      grown : Grows l.initial.lists.numbers.items l.lists.numbers.items;
      group : (keys : List ℕ) → AreGroups keys l.holders.groups → (v : ℕ) → slice_get keys l.e ≡ Some v → v ≡ l.hash % length l.holders.groups.firsts.items;
      put : PutBelow l.holders.list.items l.lists.numbers.items l.start l.hash l.e;
    }

abbrev pub decreases-loop-e : goal.decreases-loop-e
decreases-loop-e l = length l.holders.list.items - l.e
