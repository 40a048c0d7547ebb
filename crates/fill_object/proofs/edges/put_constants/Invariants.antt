use Rattle.fill_arena.specs.Contents.{SomeBelow}
use Rattle.fill_arena.specs.Stands.{ConstantFits}
use Rattle.fill_object.specs.Kinds.{atoms_on}
use Rattle.fill_object.specs.Leasts.{Gains}
use Rattle.fill_object.proofs.edges.put_constants.Given as goal

abbrev pub invariant-loop-item : goal.invariant-loop-item
invariant-loop-item l = Gains (atoms_on l.on) (λ a. SomeBelow l.item-index l.items (λ i. ConstantFits l.on.arena.now i a)) l.initial.rivals.items l.rivals.items
