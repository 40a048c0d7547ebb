use Rattle.fill_arena.specs.Contents.{EachIn}
use Rattle.fill_eval.specs.Piece.{IsWithin}
use Rattle.fill_doubt.specs.Answers.{Gains, PiecesHave}
use Rattle.fill_doubt.specs.Memo.{ConstantItemAnswers}
use Rattle.fill_doubt.proofs.Gains.{SomeBelow}
use Rattle.fill_doubt.proofs.sets.atoms_of.Given as goal

abbrev pub invariant-loop-item : goal.invariant-loop-item
invariant-loop-item l = record {
  within : EachIn IsWithin l.found.pieces.items;
  gains : Gains (PiecesHave l.initial.found) (PiecesHave l.found) (λ o. SomeBelow l.item-index l.items (λ i. ConstantItemAnswers i o));
}
