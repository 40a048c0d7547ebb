use Rattle.fill_arena.specs.Contents.{EachIn}
use Rattle.fill_eval.specs.Piece.{IsWithin}
use Rattle.fill_doubt.specs.Answers.{AreBetweenFrom, Gains, PiecesHave}
use Rattle.fill_doubt.proofs.Gains.{SomeBelow}
use Rattle.fill_doubt.proofs.positions.put_between.Given as goal

abbrev pub invariant-loop-i : goal.invariant-loop-i
invariant-loop-i l = record {
  within : EachIn IsWithin l.found.pieces.items;
  gains : Gains (PiecesHave l.initial.found) (PiecesHave l.found) (λ o. SomeBelow l.i l.lefts.positions.items (λ a. AreBetweenFrom l.text a l.rights.positions.items o));
}
