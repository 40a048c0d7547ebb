use Rattle.std.proofs.Common.{refl}
use Rattle.fill_eval.specs.Piece.{piece_text}
use Rattle.fill_doubt.proofs.Gains.{have_there, have_pushed}
use Rattle.fill_doubt.proofs.answers.Pieces.put.Goals as goal

pub returns-then-has-clause-gains : goal.returns-then-has-clause-gains
returns-then-has-clause-gains c = have_there piece_text c.args.self.now.pieces.items c.args.self.now.none (piece_text c.args.piece.now) (c.has.ensures.0 c.if-has.true)

pub returns-in-Ok-clause-gains : goal.returns-in-Ok-clause-gains
returns-in-Ok-clause-gains c = have_pushed piece_text c.args.self.now.pieces.items _ c.args.self.now.none _ _ c.in-Ok.ensures.items refl
