use Rattle.std.proofs.Common.{◌≡◌}
use Rattle.fill_tree.specs.Meaning.{source_tree}
use Rattle.fill_tree.specs.Tree.{sub}
use Rattle.fill_arena.specs.Contents.{SomeBelow}
use Rattle.fill_object.specs.Kinds.{atoms_on}
use Rattle.fill_object.specs.Leasts.{Gains}
use Rattle.fill_object.proofs.atoms.put_from.Given as goal

abbrev pub invariant-loop-right : goal.invariant-loop-right
invariant-loop-right l = Gains (atoms_on l.on) (λ a. SomeBelow l.right-index l.rights (λ r. a ≡ sub (source_tree l.source) l.left r.place)) l.initial.rivals.items l.rivals.items
