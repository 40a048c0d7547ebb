-- Pieces of texts that are lent.
use Rattle.std.specs.Prelude.{ℕ, ◌≤◌, List, length, slice_range}
use Rattle.fill_eval.specs.declared.piece.Piece.{Piece}

-- the characters of the piece
abbrev pub piece_text : Piece → List ℕ
piece_text p = slice_range p.text.now p.from p.to

-- the piece lies in its text
abbrev pub IsWithin : Piece → Type 0
IsWithin p = (p.from ≤ p.to) × (p.to ≤ length p.text.now)
