use Rattle.std.proofs.Common.{refl}
use Rattle.fill_eval.specs.Piece.{piece_text}
use Rattle.fill_doubt.proofs.Gains.{have_empty}
use Rattle.fill_doubt.proofs.answers.Pieces.new.Goals as goal

pub returns-clause-none : goal.returns-clause-none
returns-clause-none c = have_empty piece_text _ _ c.new.ensures.items refl
