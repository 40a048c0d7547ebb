use Rattle.fill_arena.specs.Contents.{SomeIn}
use Rattle.fill_meet.specs.Memory.{IsRight}
use Rattle.fill_meet.specs.Sets.{IsItemWithin}
use Rattle.fill_meet.proofs.Lists.{AllBelow}
use Rattle.fill_meet.proofs.within.are_atoms_within.Given as goal

abbrev pub invariant-loop-i : goal.invariant-loop-i
invariant-loop-i l = record { memo : IsRight l.arena l.memo; within : AllBelow (λ x. SomeIn (IsItemWithin l.arena x) l.ys) l.xs l.i }
