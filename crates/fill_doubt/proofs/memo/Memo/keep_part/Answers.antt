use Rattle.std.proofs.Common.{◌↔◌, ℕ, List, Option, nat_eq}
use Rattle.std.specs.HashMap.{get}
use Rattle.fill_arena.specs.Contents.{EachIn}
use Rattle.fill_eval.specs.Piece.{IsWithin}
use Rattle.fill_doubt.specs.Answers.{PiecesHave}
use Rattle.fill_doubt.specs.Memo.{PartAnswers}
use Rattle.fill_doubt.proofs.Maps.{put_right}
use Rattle.fill_doubt.proofs.memo.Memo.keep_part.Goals as goal

pub returns-in-Ok : goal.returns-in-Ok
returns-in-Ok c on memo within exact =
    let u = c.in-Ok.ensures.updates in
    record {
      sources = memo.sources;
      numbers = memo.numbers;
      last = memo.last;
      parts = put_right (λ q. get nat_eq c.args.self.now.parts q) (λ q. get nat_eq c.insert.new.self q) (λ q f. EachIn IsWithin f.pieces.items × ((o : Option (List ℕ)) → PiecesHave f o ↔ PartAnswers on q o)) c.args.s c.args.found u.1 u.2 memo.parts (within, exact);
      texts = memo.texts;
      shapes = memo.shapes;
    }
