-- The pieces of an example's text, and the atoms that give them.
use Rattle.std.specs.Prelude.{◌≡◌, ◌↔◌, ℕ, ◌+◌, ◌≤◌, true, List, length, take, drop, All}
use Rattle.std.specs.Char.{IsScalar}
use Rattle.fill_tree.specs.Tree.{AtomTree, constant}
use Rattle.fill_tree.specs.Grammar.{Allows, IsAtom}
use Rattle.fill_tree.specs.Value.{AtomIs}
use Rattle.fill_tree.specs.declared.user.Constants.{Constants}
use Rattle.fill_arena.specs.Contents.{SomeIn, EachIn, Extends}
use Rattle.fill_arena.specs.Stands.{AtomFits}
use Rattle.fill_arena.specs.WellMade.{IsAtomItem}
use Rattle.fill_arena.specs.declared.entry.AtomItem.{AtomItem}
use Rattle.fill_arena.specs.declared.entry.Entry.{Entry}
use Rattle.fill_tree.specs.declared.user.TheConstants.{MOST_CHARACTERS}
use Rattle.fill_sources.specs.declared.row.OnRow.{OnRow}
use Rattle.fill_build.specs.declared.piece.Piece.{Piece}

-- the first n characters may stand in a constant together, and no more
abbrev pub AreAllowed : Constants → List ℕ → ℕ → Type 0
AreAllowed constants rest n = (m : ℕ) → m ≤ length rest → (m ≤ n) ↔ Allows constants (take m rest)

-- the text from where the piece begins, and the piece
abbrev pub piece_rest : Piece → List ℕ
piece_rest p = drop p.from p.text.now

abbrev pub piece_text : Piece → List ℕ
piece_text p = take p.width (drop p.from p.text.now)

-- a piece with some character, of a text that an example may have
pub record IsWithin (p : Piece) : Type 0 where
  pub some : 1 ≤ p.width
  pub within : p.from + p.width ≤ length p.text.now
  pub short : length p.text.now ≤ MOST_CHARACTERS

-- it says rightly whether a constant may be the piece
pub record IsPiece (constants : Constants) (p : Piece) : Type 0 where
  pub within : IsWithin p
  pub constant : (p.constant ≡ true) ↔ Allows constants (piece_text p)

-- the atom is one of the grammar, and its text on the row is w
abbrev pub PieceAtom : OnRow → List ℕ → AtomTree → Type 0
PieceAtom on w a = IsAtom on.settings on.sheet.now on.tables.now a × AtomIs on.sheet.now on.tables.now on.row a w

-- items of the arena that stand, in each arena that extends it, for exactly these atoms
pub record AreItemsOf (on : OnRow) (c : List Entry) (w : List ℕ) (items : List AtomItem) : Type 0 where
  pub each : EachIn (IsAtomItem c (length c)) items
  pub exact : (d : List Entry) → Extends c d → (a : AtomTree) → SomeIn (AtomFits a d) items ↔ PieceAtom on w a

-- items of any arena that stand for the constant of the piece, where a constant may be it
pub record AreConstants (p : Piece) (items : List AtomItem) : Type 0 where
  pub scalars : All IsScalar (piece_text p)
  pub each : (c : List Entry) → EachIn (IsAtomItem c (length c)) items
  pub exact : (d : List Entry) (a : AtomTree) → SomeIn (AtomFits a d) items ↔ ((p.constant ≡ true) × (a ≡ constant (piece_text p)))
