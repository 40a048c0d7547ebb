use Rattle.std.proofs.Common.{◌≡◌}
use Rattle.fill_tree.specs.Meaning.{source_tree}
use Rattle.fill_tree.specs.Tree.{whole}
use Rattle.fill_arena.specs.Contents.{SomeBelow}
use Rattle.fill_object.specs.Kinds.{atoms_on}
use Rattle.fill_object.specs.Leasts.{Gains}
use Rattle.fill_object.proofs.atoms.put_wholes.Given as goal

abbrev pub invariant-loop-source : goal.invariant-loop-source
invariant-loop-source l = Gains (atoms_on l.on) (λ a. SomeBelow l.source-index l.sources (λ x. a ≡ whole (source_tree x.source))) l.initial.rivals.items l.rivals.items
