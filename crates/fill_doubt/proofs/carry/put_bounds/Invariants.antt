use Rattle.std.proofs.Common.{◌≡◌}
use Rattle.std.specs.Prelude.{slice_get}
use Rattle.fill_doubt.specs.Answers.{Gains, PositionsHave}
use Rattle.fill_doubt.proofs.Gains.{SomeBelow}
use Rattle.fill_doubt.proofs.carry.put_bounds.Given as goal

abbrev pub invariant-loop-i : goal.invariant-loop-i
invariant-loop-i l = Gains (PositionsHave l.initial.found) (PositionsHave l.found) (λ o. SomeBelow l.i l.positions (λ x. o ≡ slice_get l.bounds x))
