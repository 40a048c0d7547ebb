-- What is known of a row, with the sets that were made for it.
use Rattle.std.specs.Prelude.{◌≡◌, ◌↔◌, ℕ, ◌<◌, List, [], ◌∷◌, Option, Some, Bool, ◌&&◌, nat_eq, Contains, slice_get, All}
use Rattle.std.specs.Char.{IsScalar}
use Rattle.std.specs.BTreeMap.{get_by}
use Rattle.std.specs.Cmp.Lexicographic.{slice_cmp}
use Rattle.std.specs.HashMap.{get}
use Rattle.std.specs.Ordering.{nat_cmp, ordering_then}
use Rattle.fill_text.specs.Data.{TableData}
use Rattle.fill_tables.specs.Keys.{IsKeyedRow}
use Rattle.fill_tree.specs.Tree.{SourceTree, col, select}
use Rattle.fill_arena.specs.Contents.{Extends}
use Rattle.fill_arena.specs.declared.entry.ConditionItem.{ConditionItem}
use Rattle.fill_arena.specs.declared.entry.Entry.{Entry}
use Rattle.fill_places.specs.Index.{IndexView}
use Rattle.fill_reach.specs.Reach.{Picks}
use Rattle.fill_reach.specs.declared.rows.ReachedRow.{ReachedRow}
use Rattle.fill_sources.specs.Found.{AreRecalled}
use Rattle.fill_sources.specs.Gives.{AreSourcesIn, ArePartsIn, ArePlacesAt, Gives, IsOnRow, at_depth}
use Rattle.fill_sources.specs.Origins.{AreTexts, texts_in}
use Rattle.fill_sources.specs.declared.row_texts.RowTexts.{RowTexts}
use Rattle.fill_sources.specs.declared.memo.Memo.{Memo}
use Rattle.fill_sources.specs.declared.row.Look.{Look}
use Rattle.fill_sources.specs.declared.row.OnRow.{OnRow}
use Rattle.fill_sources.specs.declared.texts.Origin.{Origin}
use Rattle.fill_sources.specs.declared.texts.Origin.TheVariants.{Col, Cell}

-- the texts that were found, in the order of their numbers
abbrev pub texts_of : RowTexts → List (List ℕ)
texts_of k = texts_in k.texts

-- the row is such, and the texts are all that sources give there
pub record IsLook (look : Look) : Type 0 where
  pub row : IsOnRow look.on.now
  pub texts : AreTexts look.on.now look.texts.now

-- facts of each arena that extends this one
abbrev pub Lasts : List Entry → (List Entry → Type 0) → Type 0
Lasts c P = (d : List Entry) → Extends c d → P d

-- the index is that of the text of number k
abbrev pub IsIndexOf : OnRow → List (List ℕ) → ℕ → IndexView → Type 0
IsIndexOf on texts k index = (v : List ℕ) → slice_get texts k ≡ Some v → index ≡ record { text = v; token_set = on.settings.profile.tokens }

-- the set is that of the places at a position of a text, by their numbers
abbrev pub IsPlaceMade : OnRow → List (List ℕ) → List Entry → ℕ × ℕ → Option ℕ → Type 0
IsPlaceMade on texts c k made = (v : List ℕ) → slice_get texts k.0 ≡ Some v → Lasts c (λ d. ArePlacesAt on d v k.1 made)

-- the set is that of the sources that give a text by its number, no deeper than a depth
abbrev pub IsSourceMade : OnRow → List (List ℕ) → List Entry → ℕ × ℕ → Option ℕ → Type 0
IsSourceMade on texts c k made = (v : List ℕ) → slice_get texts k.0 ≡ Some v → Lasts c (λ d. AreSourcesIn (at_depth on k.1) d v made)

-- the set is that of the parts that give a text, no deeper than a depth
abbrev pub IsPartMade : OnRow → List Entry → List ℕ × ℕ → Option ℕ → Type 0
IsPartMade on c k made = Lasts c (λ d. ArePartsIn (at_depth on k.1) d k.0 made)

abbrev pub pair_eq : ℕ × ℕ → ℕ × ℕ → Bool
pair_eq x y = nat_eq x.0 y.0 && nat_eq x.1 y.1

-- the set of parts that was kept for a text and a depth
abbrev pub part_in : Memo → List ℕ × ℕ → Option (Option ℕ)
part_in memo k = get_by (λ y. ordering_then (slice_cmp nat_cmp k.0 y.0.now) (nat_cmp k.1 y.1)) memo.parts

-- what was made is right
pub record IsRight (on : OnRow) (texts : List (List ℕ)) (c : List Entry) (memo : Memo) : Type 0 where
  pub indexes : (k : ℕ) (index : IndexView) → get nat_eq memo.indexes k ≡ Some index → IsIndexOf on texts k index
  pub places : AreRecalled on.settings.profile.tokens c texts memo.places.items
  pub sources : (k : ℕ × ℕ) (made : Option ℕ) → get pair_eq memo.sources k ≡ Some made → IsSourceMade on texts c k made
  pub parts : (k : List ℕ × ℕ) (made : Option ℕ) → part_in memo k ≡ Some made → IsPartMade on c k made

-- what is known of the row in an arena: exactly the texts that sources give, each once
pub record AreRowTexts (on : OnRow) (c : List Entry) (k : RowTexts) : Type 0 where
  pub exact : (v : List ℕ) → Contains (texts_of k) v ↔ ((x : SourceTree) × Gives on v x)
  pub once : (i j : ℕ) (v : List ℕ) → slice_get (texts_of k) i ≡ Some v → slice_get (texts_of k) j ≡ Some v → i ≡ j
  pub texts : AreTexts on k.texts
  pub memo : IsRight on (texts_of k) c k.memo

-- the source reads what is there: the column, or the cell of the row by a lookup
abbrev pub Reads : OnRow → Origin → SourceTree → Type 0
Reads on (Col c) (col n) = n ≡ c
Reads on (Col c) (select column table key conditions) = ⊥
Reads on (Cell r c) (col n) = ⊥
Reads on (Cell r c) (select column table key conditions) =
    (column ≡ c) × (table ≡ r.table) × (key ≡ r.key) × Picks on.sheet.now on.tables.now on.row table key conditions r.row

-- the source gives the text, and reads one of the first of these
abbrev pub GivesFirst : OnRow → List ℕ → List Origin → ℕ → SourceTree → Type 0
GivesFirst on v origins n x = (i : ℕ) × (o : Origin) × (i < n) × (slice_get origins i ≡ Some o) × (Reads on o x × Gives on v x)

-- the condition is the cell as a constant, or a part that gives it
pub record IsCondition (on : OnRow) (c : List Entry) (cell : List ℕ) (i : ConditionItem) : Type 0 where
  pub constant : i.constant ≡ Some cell
  pub scalars : All IsScalar cell
  pub parts : Lasts c (λ d. ArePartsIn on d cell i.atoms)

-- the conditions are those of these cells
abbrev pub AreConditions : OnRow → List Entry → List (List ℕ) → List ConditionItem → Type 0
AreConditions on c [] [] = Unit {0}
AreConditions on c [] (i ∷ items) = ⊥
AreConditions on c (cell ∷ cells) [] = ⊥
AreConditions on c (cell ∷ cells) (i ∷ items) = IsCondition on c cell i × AreConditions on c cells items

-- the row's cells in the columns of the key
abbrev pub AreKeyCells : List TableData → ReachedRow → List (List ℕ) → Type 0
AreKeyCells tables r cells = IsKeyedRow tables r.table r.key cells r.row
