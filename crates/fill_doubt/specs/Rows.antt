-- The texts of conditions, one for each, and what lookups find by them.
use Rattle.std.specs.Prelude.{◌≡◌, ◌⊎◌, ℕ, List, [], ◌∷◌, ◌++◌, Bool, true, false, ◌||◌, Option, None, Some}
use Rattle.fill_text.specs.Data.{TableData}
use Rattle.fill_tables.specs.Keys.{IsKeyedRow}
use Rattle.fill_tree.specs.Value.{IsValue, LooksUp}
use Rattle.fill_doubt.specs.Answers.{AreJoined, Have, PiecesHave}
use Rattle.fill_doubt.specs.declared.answers.Pieces.{Pieces}
use Rattle.fill_doubt.specs.declared.conditions.Cell.{Cell}
use Rattle.fill_doubt.specs.declared.conditions.Cells.{Cells}
use Rattle.fill_doubt.specs.declared.rows.Look.{Look}

-- a condition's text, and whether the condition is no constant
pub record Choice : Type 0 where
  pub text : List ℕ
  pub part : Bool

-- the texts of conditions, and whether one of them is no constant
pub record RowText : Type 0 where
  pub texts : List (List ℕ)
  pub part : Bool

abbrev pub choice_of : List ℕ → Bool → Choice
choice_of t b = record { text = t; part = b }

-- the texts of an item's conditions: its constant's, and those of its parts
abbrev pub ChosenBy : Bool → List ℕ → Option (List ℕ) → Pieces → Type 0
ChosenBy true t fixed parts = PiecesHave parts (Some t)
ChosenBy false t fixed parts = fixed ≡ Some t

abbrev pub ChoicesHave : Option (List ℕ) → Pieces → Option Choice → Type 0
ChoicesHave fixed parts None = parts.none ≡ true
ChoicesHave fixed parts (Some x) = ChosenBy x.part x.text fixed parts

-- a text in front of those after it
abbrev pub in_front : Option Choice → Option RowText → Option RowText
in_front None r = None
in_front (Some x) None = None
in_front (Some x) (Some r) = Some (record { texts = x.text ∷ r.texts; part = x.part || r.part })

-- the texts that were found of a condition
abbrev pub cell_choice : Cell → Choice
cell_choice x = choice_of x.text.now x.part

abbrev pub CellsHave : Cells → Option Choice → Type 0
CellsHave f = Have cell_choice f.cells.items f.none

-- one text of each condition
abbrev pub RowsHave : List Cells → Option RowText → Type 0
RowsHave [] o = o ≡ Some (record { texts = []; part = false })
RowsHave (c ∷ cs) o = AreJoined in_front (CellsHave c) (RowsHave cs) o

-- what a lookup by the texts finds; by constants alone there is none
abbrev pub RowFinds : List TableData → ℕ → ℕ → ℕ → Option RowText → Option (List ℕ) → Type 0
RowFinds tables column table key None o = o ≡ None
RowFinds tables column table key (Some r) o = (r.part ≡ true) × IsValue (LooksUp (λ ts. ts ≡ r.texts) tables column table key) o

abbrev pub AreFound : List TableData → ℕ → ℕ → ℕ → (Option RowText → Type 0) → Option (List ℕ) → Type 0
AreFound tables column table key R o = (r : Option RowText) × R r × RowFinds tables column table key r o

-- cells, and whether one of them is of a condition that is no constant, before those of a row
abbrev pub after : List (List ℕ) → Bool → RowText → RowText
after cells part r = record { texts = cells ++ r.texts; part = part || r.part }

abbrev pub FindsBy : Look → RowText → Option (List ℕ) → Type 0
FindsBy look r o = RowFinds look.tables.now look.item.now.column look.item.now.table look.item.now.key (Some r) o

-- what is found by these cells and one text of each condition
abbrev pub Find : Look → List (List ℕ) → Bool → List Cells → Option (List ℕ) → Type 0
Find look cells part conditions o = (r : RowText) × RowsHave conditions (Some r) × FindsBy look (after cells part r) o

-- what is found of them with the row of this number
abbrev pub RowHas : Look → ℕ → List Cells → Option (List ℕ) → Type 0
RowHas look row conditions o = (v : List ℕ) × (r : RowText) × (o ≡ Some v) × RowsHave conditions (Some r)
    × IsKeyedRow look.tables.now look.item.now.table look.item.now.key r.texts row × FindsBy look r o

abbrev pub IsText : Option (List ℕ) → Type 0
IsText o = (v : List ℕ) × (o ≡ Some v)

-- all is sought, or whether something finds nothing
abbrev pub IsSought : Bool → Option (List ℕ) → Type 0
IsSought few o = (few ≡ false) ⊎ (o ≡ None)

-- the cells are texts of the conditions, one of each, where one is no constant
abbrev pub Fit : List Cells → List (List ℕ) → Bool → Type 0
Fit conditions ts part = (r : RowText) × RowsHave conditions (Some r) × (r.texts ≡ ts) × ((part || r.part) ≡ true)
