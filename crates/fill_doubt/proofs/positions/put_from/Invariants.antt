use Rattle.std.proofs.Common.{◌≡◌, Some}
use Rattle.fill_arena.specs.Contents.{EachIn}
use Rattle.fill_eval.specs.Piece.{IsWithin}
use Rattle.fill_doubt.specs.Answers.{between, Gains, PiecesHave}
use Rattle.fill_doubt.proofs.Gains.{SomeBelow}
use Rattle.fill_doubt.proofs.positions.put_from.Given as goal

abbrev pub invariant-loop-i : goal.invariant-loop-i
invariant-loop-i l = record {
  within : EachIn IsWithin l.found.pieces.items;
  gains : Gains (PiecesHave l.initial.found) (PiecesHave l.found) (λ o. SomeBelow l.i l.rights.positions.items (λ b. o ≡ between l.text (Some l.from) (Some b)));
}
