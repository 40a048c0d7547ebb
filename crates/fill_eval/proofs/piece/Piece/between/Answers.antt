use Rattle.fill_eval.proofs.Pieces.{between_some, between_apart}
use Rattle.fill_eval.proofs.piece.Piece.between.Goals as goal

pub returns-then-from-to-clause-value : goal.returns-then-from-to-clause-value
returns-then-from-to-clause-value c =
    between_some c.args.text.now c.args.left.now c.args.right.now c.in_ok-from.from c.in_ok-to.to c.in_ok-from.ensures c.in_ok-to.ensures c.if-from-to.true

pub returns-else-from-to-clause-value : goal.returns-else-from-to-clause-value
returns-else-from-to-clause-value c =
    between_apart c.args.text.now c.args.left.now c.args.right.now c.in_ok-from.from c.in_ok-to.to c.in_ok-from.ensures c.in_ok-to.ensures c.if-from-to.false
