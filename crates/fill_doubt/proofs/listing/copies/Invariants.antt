use Rattle.std.proofs.Common.{◌≡◌, map, take}
use Rattle.fill_eval.specs.Piece.{piece_text}
use Rattle.fill_doubt.proofs.listing.copies.Given as goal

abbrev pub invariant-loop-i : goal.invariant-loop-i
invariant-loop-i l = l.texts ≡ map piece_text (take l.i l.pieces)
