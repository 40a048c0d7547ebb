use Rattle.std.proofs.Common.{ℕ, ◌≤◌, length}
use Rattle.fill_arena.specs.Contents.{SomeIn}
use Rattle.fill_meet.specs.Mates.{IsHolder}
use Rattle.fill_meet.specs.Runs.{Grows, HasFrom}
use Rattle.fill_meet.proofs.Lists.{AllBelow}
use Rattle.fill_meet.proofs.mates.list_mates.Given as goal

abbrev pub invariant-loop-i : goal.invariant-loop-i
invariant-loop-i l =
    record {
      start : l.start ≤ length l.lists.numbers.items;
      grown : Grows l.initial.lists.numbers.items l.lists.numbers.items;
      each : AllBelow (λ p. (n : ℕ) → SomeIn (IsHolder p n) l.holders.list.items → HasFrom l.lists.numbers.items l.start n) l.places l.i;
    }
