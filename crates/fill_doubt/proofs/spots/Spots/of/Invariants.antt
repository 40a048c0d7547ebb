use Rattle.std.proofs.Common.{◌≡◌, Some}
use Rattle.fill_tokens.specs.Value.{HasValue}
use Rattle.fill_tree.specs.Value.{IsValue}
use Rattle.fill_doubt.specs.Answers.{Gains, PositionsHave}
use Rattle.fill_doubt.specs.Cuts.{AreCutsOf}
use Rattle.fill_doubt.specs.Spots.{IsShaped, OthersHave}
use Rattle.fill_doubt.proofs.Gains.{SomeBelow}
use Rattle.fill_doubt.proofs.spots.Spots.of.Given as goal

abbrev pub invariant-loop-i : goal.invariant-loop-i
invariant-loop-i l = record {
  cuts : AreCutsOf l.w l.cuts;
  shaped : Gains (PositionsHave l.initial.found.shaped) (PositionsHave l.found.shaped) (λ o. SomeBelow l.i l.places (λ p. IsShaped p × IsValue (HasValue p l.w) o));
  others : Gains (OthersHave l.initial.found) (OthersHave l.found) (λ o. SomeBelow l.i l.places (λ p. (o ≡ Some p) × ¬ (IsShaped p)));
}
