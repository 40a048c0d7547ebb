use Rattle.std.proofs.Common.{◌≡◌, ◌++◌, take}
use Rattle.fill_split.specs.Standing.{kept_of}
use Rattle.fill_session.specs.Renewed.{all_moves, spaces_of}
use Rattle.fill_session.proofs.compaction.live_spaces.Given as goal

abbrev pub invariant-loop-i : goal.invariant-loop-i
invariant-loop-i l = l.live ≡ kept_of l.present.folds ++ spaces_of (λ p. kept_of p.folds) (take l.i (all_moves l.history))
