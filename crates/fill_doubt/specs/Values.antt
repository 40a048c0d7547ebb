-- Pieces in the order of their texts.
use Rattle.std.specs.Prelude.{◌≡◌, List}
use Rattle.std.specs.List.{AllPairs}
use Rattle.std.specs.Ordering.{nat_cmp}
use Rattle.std.specs.Cmp.Lexicographic.{slice_cmp}
use Rattle.std.specs.declared.cmp.Ordering.TheVariants.{Less}
use Rattle.fill_eval.specs.Piece.{piece_text}
use Rattle.fill_eval.specs.declared.piece.Piece.{Piece}

abbrev pub AreRising : List Piece → Type 0
AreRising pieces = AllPairs (λ x y. slice_cmp nat_cmp (piece_text x) (piece_text y) ≡ Less) pieces
