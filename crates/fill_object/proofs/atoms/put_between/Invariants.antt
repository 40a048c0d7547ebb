use Rattle.fill_tree.specs.Meaning.{source_tree}
use Rattle.fill_arena.specs.Contents.{SomeBelow}
use Rattle.fill_object.specs.Kinds.{atoms_on}
use Rattle.fill_object.specs.Leasts.{Gains}
use Rattle.fill_object.specs.Pieces.{IsPieceTo}
use Rattle.fill_object.proofs.atoms.put_between.Given as goal

abbrev pub invariant-loop-left : goal.invariant-loop-left
invariant-loop-left l = Gains (atoms_on l.on) (λ a. SomeBelow l.left-index l.lefts (λ x. IsPieceTo (source_tree l.source) x.place l.rights a)) l.initial.rivals.items l.rivals.items
