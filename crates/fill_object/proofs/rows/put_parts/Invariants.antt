use Rattle.fill_tree.specs.Meaning.{atom_tree}
use Rattle.fill_arena.specs.Contents.{SomeBelow}
use Rattle.fill_object.specs.Kinds.{rows_on}
use Rattle.fill_object.specs.Leasts.{Gains}
use Rattle.fill_object.specs.Rows.{IsFront}
use Rattle.fill_object.specs.declared.row.OnRow.{OnRow}
use Rattle.fill_object.proofs.rows.put_parts.Given as goal

abbrev pub invariant-loop-part : goal.invariant-loop-part
invariant-loop-part l = (on : OnRow) → Gains (rows_on on) (λ y. SomeBelow l.part-index l.parts (λ x. IsFront (atom_tree x.atom) l.rests y)) l.initial.fronts.items l.fronts.items
