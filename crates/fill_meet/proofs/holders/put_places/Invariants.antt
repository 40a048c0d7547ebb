use Rattle.fill_arena.specs.Contents.{SomeIn}
use Rattle.fill_meet.specs.Mates.{IsHolder}
use Rattle.fill_meet.specs.Runs.{Grows}
use Rattle.fill_meet.proofs.Lists.{AllBelow}
use Rattle.fill_meet.proofs.holders.put_places.Given as goal

abbrev pub invariant-loop-i : goal.invariant-loop-i
invariant-loop-i l =
    record { grown : Grows l.initial.list.items l.list.items; each : AllBelow (λ p. SomeIn (IsHolder p l.set) l.list.items) l.places l.i }
