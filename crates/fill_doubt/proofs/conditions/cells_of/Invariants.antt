use Rattle.std.proofs.Common.{◌≡◌, Some, true}
use Rattle.fill_eval.specs.Piece.{piece_text}
use Rattle.fill_doubt.specs.Answers.{Gains}
use Rattle.fill_doubt.specs.Rows.{CellsHave, choice_of}
use Rattle.fill_doubt.proofs.Gains.{SomeBelow}
use Rattle.fill_doubt.proofs.conditions.cells_of.Given as goal

abbrev pub invariant-loop-i : goal.invariant-loop-i
invariant-loop-i l = Gains (CellsHave l.initial.made) (CellsHave l.made) (λ o. SomeBelow l.i l.parts.pieces.items (λ x. o ≡ Some (choice_of (piece_text x) true)))
