use Rattle.std.proofs.Common.{◌≡◌}
use Rattle.fill_arena.specs.Contents.{EachIn}
use Rattle.fill_tree.specs.Value.{IsFilled, IsValue}
use Rattle.fill_eval.specs.Piece.{IsWithin}
use Rattle.fill_doubt.specs.Answers.{Gains, PiecesHave}
use Rattle.fill_doubt.proofs.Gains.{SomeBelow}
use Rattle.fill_doubt.proofs.sets.put_wholes.Given as goal

abbrev pub invariant-loop-i : goal.invariant-loop-i
invariant-loop-i l = record {
  within : EachIn IsWithin l.found.pieces.items;
  gains : Gains (PiecesHave l.initial.found) (PiecesHave l.found) (λ o. SomeBelow l.i l.texts.texts.items (λ x. IsValue (IsFilled (λ t. t ≡ x.text.now)) o));
}
