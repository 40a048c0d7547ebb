use Rattle.fill_tokens.specs.Value.{HasValue}
use Rattle.fill_tree.specs.Value.{IsValue}
use Rattle.fill_doubt.specs.Answers.{Gains, PositionsHave}
use Rattle.fill_doubt.proofs.Gains.{SomeBelow}
use Rattle.fill_doubt.proofs.carry.put_asked.Given as goal

abbrev pub invariant-loop-i : goal.invariant-loop-i
invariant-loop-i l = Gains (PositionsHave l.initial.found) (PositionsHave l.found) (λ o. SomeBelow l.i l.places (λ p. IsValue (HasValue p l.text) o))
