use Rattle.std.proofs.Common.{map}
use Rattle.fill_reach.specs.Spots.{Gains, spot_of}
use Rattle.fill_reach.proofs.StepLaws.{FreeTo}
use Rattle.fill_reach.proofs.texts.push_row.Given as goal

abbrev pub invariant-loop-column : goal.invariant-loop-column
invariant-loop-column l = Gains (map (λ text. text.now) l.initial.texts.items) (map (λ text. text.now) l.texts.items) (FreeTo l.tables (spot_of l.row) l.column)
