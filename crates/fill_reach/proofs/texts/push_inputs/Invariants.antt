use Rattle.std.proofs.Common.{map}
use Rattle.fill_reach.specs.Spots.{Gains}
use Rattle.fill_reach.proofs.StepLaws.{InputsTo}
use Rattle.fill_reach.proofs.texts.push_inputs.Given as goal

abbrev pub invariant-loop-column : goal.invariant-loop-column
invariant-loop-column l = Gains (map (λ text. text.now) l.initial.texts.items) (map (λ text. text.now) l.texts.items) (InputsTo l.sheet l.row l.column-items l.column-index)
