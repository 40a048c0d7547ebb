-- The values of trees on a row, as relations: a tree has a value where some text is it, and none where no text is.
use Rattle.std.specs.Prelude.{◌≡◌, ◌≢◌, ℕ, ◌<◌, List, [], ◌∷◌, ◌++◌, Option, Some, ◌↔◌, slice_range}
use Rattle.fill_text.specs.Data.{SheetData, TableData, cell_at, table_cell_at}
use Rattle.fill_tables.specs.Keys.{IsKeyedRow}
use Rattle.fill_tokens.specs.Value.{HasValue}
use Rattle.fill_tokens.specs.declared.place.Place.{Place}
use Rattle.fill_tree.specs.Tree.{SourceTree, AtomTree, Atoms, col, select, constant, whole, sub, end, more}

-- a lookup by texts of the property: the cell of the row whose key cells they are
abbrev pub LooksUp : (List (List ℕ) → Type 0) → List TableData → ℕ → ℕ → ℕ → List ℕ → Type 0
LooksUp P tables column table key v =
    (texts : List (List ℕ)) × (row : ℕ) × P texts × IsKeyedRow tables table key texts row × (table_cell_at tables table row column ≡ Some v)

-- a text of the property that is not empty
abbrev pub IsFilled : (List ℕ → Type 0) → List ℕ → Type 0
IsFilled P v = P v × (v ≢ [])

-- the piece of a text of the property from one place's value to another's, which is not empty
abbrev pub IsPieceBetween : (List ℕ → Type 0) → Place → Place → List ℕ → Type 0
IsPieceBetween P p q v =
    (t : List ℕ) × (a : ℕ) × (b : ℕ) × P t × HasValue p t a × HasValue q t b × (a < b) × (v ≡ slice_range t a b)

-- a text and the texts after it
abbrev pub IsHeadAndTail : (List ℕ → Type 0) → (List (List ℕ) → Type 0) → List (List ℕ) → Type 0
IsHeadAndTail P Q [] = ⊥
IsHeadAndTail P Q (v ∷ vs) = P v × Q vs

-- one text before another
abbrev pub IsJoined : (List ℕ → Type 0) → (List ℕ → Type 0) → List ℕ → Type 0
IsJoined P Q v = (x : List ℕ) × (y : List ℕ) × P x × Q y × (v ≡ x ++ y)

abbrev mutual
  -- the source's text on the row is v
  pub SourceIs : SheetData → List TableData → ℕ → SourceTree → List ℕ → Type 0
  SourceIs sheet tables row (col c) v = cell_at sheet row c ≡ Some v
  SourceIs sheet tables row (select column table key conditions) v =
      LooksUp (ConditionsAre sheet tables row conditions) tables column table key v

  -- the atom's value on the row is v, which is never empty
  pub AtomIs : SheetData → List TableData → ℕ → AtomTree → List ℕ → Type 0
  AtomIs sheet tables row (constant t) v = (v ≡ t) × (v ≢ [])
  AtomIs sheet tables row (whole s) v = IsFilled (SourceIs sheet tables row s) v
  AtomIs sheet tables row (sub s p q) v = IsPieceBetween (SourceIs sheet tables row s) p q v

  -- the same of a condition, where a constant stands for its text, also for the empty one
  pub ConditionIs : SheetData → List TableData → ℕ → AtomTree → List ℕ → Type 0
  ConditionIs sheet tables row (constant t) v = v ≡ t
  ConditionIs sheet tables row (whole s) v = IsFilled (SourceIs sheet tables row s) v
  ConditionIs sheet tables row (sub s p q) v = IsPieceBetween (SourceIs sheet tables row s) p q v

  pub ConditionsAre : SheetData → List TableData → ℕ → Atoms → List (List ℕ) → Type 0
  ConditionsAre sheet tables row end vs = vs ≡ []
  ConditionsAre sheet tables row (more a rest) vs =
      IsHeadAndTail (ConditionIs sheet tables row a) (ConditionsAre sheet tables row rest) vs

-- the program's value on the row is v: its atoms' values, one after the other
abbrev pub ProgramIs : SheetData → List TableData → ℕ → Atoms → List ℕ → Type 0
ProgramIs sheet tables row end v = v ≡ []
ProgramIs sheet tables row (more a rest) v = IsJoined (AtomIs sheet tables row a) (ProgramIs sheet tables row rest) v

-- what has the property, which is the only one of its kind, or none where nothing has it
abbrev pub IsValue : {A : Type 0} → (A → Type 0) → Option A → Type 0
IsValue {A} P value = (v : A) → P v ↔ (value ≡ Some v)
