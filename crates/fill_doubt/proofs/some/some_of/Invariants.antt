use Rattle.fill_arena.specs.Contents.{EachIn}
use Rattle.fill_eval.specs.Piece.{IsWithin}
use Rattle.std.specs.Prelude.{ℕ, List, Option}
use Rattle.fill_doubt.specs.Answers.{PiecesHave}
use Rattle.fill_doubt.specs.Memo.{IsMemoOf, AtomAnswers}
use Rattle.fill_doubt.proofs.some.some_of.Given as goal

abbrev pub invariant-loop-item : goal.invariant-loop-item
invariant-loop-item l = record {
  memo : IsMemoOf l.on l.memo;
  within : EachIn IsWithin l.found.pieces.items;
  sound : (o : Option (List ℕ)) → PiecesHave l.found o → AtomAnswers l.on l.s o;
}
