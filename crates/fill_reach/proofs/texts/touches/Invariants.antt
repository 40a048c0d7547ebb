use Rattle.std.proofs.Common.{map, Contains}
use Rattle.fill_reach.specs.Spots.{IsPieceOfSome, spot_of}
use Rattle.fill_reach.proofs.StepLaws.{HoldTo}
use Rattle.fill_reach.proofs.texts.touches.Given as goal

abbrev pub invariant-loop-column : goal.invariant-loop-column
invariant-loop-column l = HoldTo (λ v. ¬ (IsPieceOfSome (Contains (map (λ text. text.now) l.texts)) v)) l.tables (spot_of l.row) l.column-items l.column-index
