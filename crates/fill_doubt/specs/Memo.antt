-- The answers of sets on the row that is read, and what was found of them.
use Rattle.std.specs.Prelude.{◌≡◌, ◌↔◌, ℕ, ◌≤◌, IfSome, List, Option, None, Some, length, option_map, slice_get}
use Rattle.std.specs.HashMap.{get}
use Rattle.std.specs.Bool.{nat_eq}
use Rattle.fill_tables.specs.Keys.{KeysDistinguish}
use Rattle.fill_tree.specs.Grammar.{IsPart, is_part, has_part}
use Rattle.fill_tree.specs.Tree.{SourceTree, AtomTree, Atoms}
use Rattle.fill_tree.specs.Value.{IsValue, IsFilled, SourceIs, AtomIs, ConditionIs, ConditionsAre}
use Rattle.fill_arena.specs.Contents.{EachIn}
use Rattle.fill_arena.specs.Stands.{AtomStands, AtomFits, SourceFits, ConditionFits, ConditionsFit}
use Rattle.fill_arena.specs.WellMade.{IsWellMade, IsSortedGraph}
use Rattle.fill_arena.specs.declared.entry.AtomItem.{AtomItem}
use Rattle.fill_arena.specs.declared.entry.AtomItem.TheVariants.{Const, Whole, Sub}
use Rattle.fill_arena.specs.declared.entry.ConditionItem.{ConditionItem}
use Rattle.fill_arena.specs.declared.entry.Edge.{Edge}
use Rattle.fill_arena.specs.declared.entry.SourceItem.{SourceItem}
use Rattle.fill_eval.specs.Piece.{IsWithin}
use Rattle.fill_doubt.specs.Answers.{PiecesHave}
use Rattle.fill_doubt.specs.Gives.{SourceGives, AtomGives}
use Rattle.fill_doubt.specs.Numbered.{AreNumbered, HasNumber, NumberedHave}
use Rattle.fill_doubt.specs.Rows.{Choice, RowText}
use Rattle.fill_doubt.specs.Shapes.{IsReadAt, IsShapeOf, ShapesStand}
use Rattle.fill_doubt.specs.declared.answers.Pieces.{Pieces}
use Rattle.fill_doubt.specs.declared.memo.Memo.{Memo}
use Rattle.fill_doubt.specs.declared.memo.Last.{Last}
use Rattle.fill_doubt.specs.declared.numbered.NumberedTexts.{NumberedTexts}
use Rattle.fill_doubt.specs.declared.row.OnRow.{OnRow}
use Rattle.fill_doubt.specs.declared.shaped.Shaped.{Shaped}

-- the sheet has the row, the tables' keys distinguish their rows, and the arena is well made
pub record IsOnRow (on : OnRow) : Type 0 where
  pub first : 1 ≤ on.row
  pub last : on.row ≤ length on.sheet.now.rows
  pub distinguish : KeysDistinguish on.tables.now
  pub made : IsWellMade on.arena.now

abbrev pub SourceAnswers : OnRow → ℕ → Option (List ℕ) → Type 0
SourceAnswers on s = SourceGives on.arena.now on.sheet.now on.tables.now on.row s

abbrev pub AtomAnswers : OnRow → ℕ → Option (List ℕ) → Type 0
AtomAnswers on s = AtomGives on.arena.now on.sheet.now on.tables.now on.row s

-- the answers of the set's atoms that are no constants
abbrev pub PartAnswers : OnRow → ℕ → Option (List ℕ) → Type 0
PartAnswers on s o = (a : AtomTree) × AtomStands on.arena.now s a × IsPart a × IsValue (AtomIs on.sheet.now on.tables.now on.row a) o

-- the answers of what items stand for
abbrev pub SourceItemAnswers : OnRow → SourceItem → Option (List ℕ) → Type 0
SourceItemAnswers on i o = (x : SourceTree) × SourceFits x on.arena.now i × IsValue (SourceIs on.sheet.now on.tables.now on.row x) o

abbrev pub PartItemAnswers : OnRow → AtomItem → Option (List ℕ) → Type 0
PartItemAnswers on i o = (a : AtomTree) × AtomFits a on.arena.now i × IsPart a × IsValue (AtomIs on.sheet.now on.tables.now on.row a) o

abbrev pub ConstantItemAnswers : AtomItem → Option (List ℕ) → Type 0
ConstantItemAnswers (Const t) o = IsValue (IsFilled (λ u. u ≡ t)) o
ConstantItemAnswers (Whole b) o = ⊥
ConstantItemAnswers (Sub b l r) o = ⊥

-- those of a condition that is no constant
abbrev pub ConditionPartAnswers : OnRow → Option ℕ → Option (List ℕ) → Type 0
ConditionPartAnswers on None o = ⊥
ConditionPartAnswers on (Some s) o = PartAnswers on s o

-- the texts of a condition, with whether it is no constant
abbrev pub IsChoiceOf : AtomTree → Option Choice → Type 0
IsChoiceOf a None = Unit {0}
IsChoiceOf a (Some x) = x.part ≡ is_part a

abbrev pub ChoiceAnswers : OnRow → ConditionItem → Option Choice → Type 0
ChoiceAnswers on i o = (a : AtomTree) × ConditionFits a on.arena.now i (AtomFits a on.arena.now)
    × IsValue (ConditionIs on.sheet.now on.tables.now on.row a) (option_map (λ x. x.text) o) × IsChoiceOf a o

-- the texts of conditions, with whether one of them is no constant
abbrev pub IsRowOf : Atoms → Option RowText → Type 0
IsRowOf cs None = Unit {0}
IsRowOf cs (Some r) = r.part ≡ has_part cs

abbrev pub RowAnswers : OnRow → List ConditionItem → Option RowText → Type 0
RowAnswers on is o = (cs : Atoms) × ConditionsFit cs on.arena.now is
    × IsValue (ConditionsAre on.sheet.now on.tables.now on.row cs) (option_map (λ r. r.texts) o) × IsRowOf cs o

-- the texts that were read last are those of their set, each with its number
pub record IsLast (on : OnRow) (texts : List Shaped) (l : Last) : Type 0 where
  pub answers : (o : Option (List ℕ)) → NumberedHave l.texts o ↔ SourceAnswers on l.set o
  pub numbers : AreNumbered texts l.texts

-- what was found is what the sets answer
pub record IsMemoOf (on : OnRow) (memo : Memo) : Type 0 where
  pub sources : (s : ℕ) (f : NumberedTexts) → get nat_eq memo.sources s ≡ Some f → (o : Option (List ℕ)) → NumberedHave f o ↔ SourceAnswers on s o
  pub numbers : (s : ℕ) (f : NumberedTexts) → get nat_eq memo.sources s ≡ Some f → AreNumbered memo.texts.items f
  pub last : IfSome memo.last (IsLast on memo.texts.items)
  pub parts : (s : ℕ) (f : Pieces) → get nat_eq memo.parts s ≡ Some f → EachIn IsWithin f.pieces.items × ((o : Option (List ℕ)) → PiecesHave f o ↔ PartAnswers on s o)
  pub texts : (i : ℕ) (x : Shaped) → slice_get memo.texts.items i ≡ Some x → IsShapeOf x × IsReadAt memo.shapes x.shape.text x.number
  pub shapes : ShapesStand on.arena.now memo.shapes

-- the text is the one of this number among those whose shapes were found
abbrev pub IsTextAt : Memo → List ℕ → ℕ → Type 0
IsTextAt memo t n = HasNumber memo.texts.items t n

-- the answers of an edge's atoms
abbrev pub EdgeAnswers : OnRow → Edge → Option (List ℕ) → Type 0
EdgeAnswers on e o = AtomAnswers on e.atoms o

abbrev pub AreEdgesOn : OnRow → ℕ → List Edge → Type 0
AreEdgesOn on nodes edges = (g : ℕ) × IsSortedGraph on.arena.now g nodes edges
