use Rattle.std.proofs.Common.{◌≡◌}
use Rattle.fill_arena.proofs.Scan.{NoneBelow}
use Rattle.fill_eval.specs.Piece.{piece_text}
use Rattle.fill_doubt.proofs.answers.Pieces.has.Given as goal

abbrev pub invariant-loop-i : goal.invariant-loop-i
invariant-loop-i l = NoneBelow (λ x. piece_text x ≡ piece_text l.piece) l.self.pieces.items l.i
