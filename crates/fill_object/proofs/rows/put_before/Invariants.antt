use Rattle.std.proofs.Common.{◌≡◌}
use Rattle.fill_tree.specs.Meaning.{atom_tree, program_tree}
use Rattle.fill_tree.specs.Tree.{more}
use Rattle.fill_arena.specs.Contents.{SomeBelow}
use Rattle.fill_object.specs.Kinds.{rows_on}
use Rattle.fill_object.specs.Leasts.{Gains}
use Rattle.fill_object.specs.declared.row.OnRow.{OnRow}
use Rattle.fill_object.proofs.rows.put_before.Given as goal

abbrev pub invariant-loop-rest : goal.invariant-loop-rest
invariant-loop-rest l = (on : OnRow) → Gains (rows_on on) (λ y. SomeBelow l.rest-index l.rests (λ q. y ≡ more (atom_tree l.condition) (program_tree q))) l.initial.fronts.items l.fronts.items
