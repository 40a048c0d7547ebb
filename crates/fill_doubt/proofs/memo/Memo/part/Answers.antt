use Rattle.std.proofs.Common.{◌↔◌, ℕ, List, Option}
use Rattle.fill_arena.specs.Contents.{EachIn}
use Rattle.fill_eval.specs.Piece.{IsWithin}
use Rattle.fill_doubt.specs.Answers.{PiecesHave}
use Rattle.fill_doubt.specs.Memo.{PartAnswers}
use Rattle.fill_doubt.specs.declared.answers.Pieces.{Pieces}
use Rattle.fill_doubt.proofs.Maps.{found_right}
use Rattle.fill_doubt.proofs.memo.Memo.part.Goals as goal

pub returns-clause-answers : goal.returns-clause-answers
returns-clause-answers c on memo = found_right (λ (f : Pieces). (o : Option (List ℕ)) → PiecesHave f o ↔ PartAnswers on c.args.s o) _ _ c.get.ensures.value (λ f h. (memo.parts c.args.s f h).1)

pub returns-clause-within : goal.returns-clause-within
returns-clause-within c on memo = found_right (λ (f : Pieces). EachIn IsWithin f.pieces.items) _ _ c.get.ensures.value (λ f h. (memo.parts c.args.s f h).0)
