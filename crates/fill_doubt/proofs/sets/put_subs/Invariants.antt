use Rattle.std.proofs.Common.{◌≡◌, false}
use Rattle.fill_arena.specs.Contents.{EachIn}
use Rattle.fill_eval.specs.Piece.{IsWithin}
use Rattle.fill_doubt.specs.Answers.{Gains, GainsSome, PiecesHave}
use Rattle.fill_doubt.specs.Gives.{ArePiecesOf, SubGives}
use Rattle.fill_doubt.specs.Memo.{IsMemoOf}
use Rattle.fill_doubt.specs.Numbered.{NumberedHave}
use Rattle.fill_doubt.proofs.Gains.{SomeBelow}
use Rattle.fill_doubt.proofs.sets.put_subs.Given as goal

abbrev pub invariant-loop-i : goal.invariant-loop-i
invariant-loop-i l = record {
  memo : IsMemoOf l.on l.memo;
  texts : l.memo.texts ≡ l.initial.memo.texts;
  within : EachIn IsWithin l.found.pieces.items;
  some : GainsSome (PiecesHave l.initial.found) (PiecesHave l.found) (ArePiecesOf l.on.arena.now l.lefts l.rights (NumberedHave l.texts));
  all : l.few ≡ false → Gains (PiecesHave l.initial.found) (PiecesHave l.found) (λ o. SomeBelow l.i l.texts.texts.items (λ x. SubGives l.on.arena.now l.lefts l.rights x.text.now o));
}
