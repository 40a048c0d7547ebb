use Rattle.std.proofs.Common.{All}
use Rattle.std.specs.Char.{IsScalar}
use Rattle.fill_reach.specs.Spots.{spot_of}
use Rattle.fill_reach.proofs.StepLaws.{HoldTo}
use Rattle.fill_reach.proofs.texts.keep_scalars.Given as goal

abbrev pub invariant-loop-column : goal.invariant-loop-column
invariant-loop-column l = HoldTo (All IsScalar) l.tables (spot_of l.row) l.column-items l.column-index
