use Rattle.fill_arena.specs.Contents.{SomeBelow}
use Rattle.fill_object.specs.Kinds.{sources_on}
use Rattle.fill_object.specs.Leasts.{Gains}
use Rattle.fill_object.specs.Rows.{IsSelectBy}
use Rattle.fill_object.proofs.sources.put_selects.Given as goal

abbrev pub invariant-loop-row : goal.invariant-loop-row
invariant-loop-row l = Gains (sources_on l.on) (λ x. SomeBelow l.row-index l.rows (λ r. IsSelectBy l.item r x)) l.initial.rivals.items l.rivals.items
