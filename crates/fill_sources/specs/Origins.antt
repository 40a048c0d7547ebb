-- Where texts come from on a row: input cells, and the cells of rows that lookups reach, in columns that are free of the key.
use Rattle.std.specs.Prelude.{◌≡◌, ◌↔◌, ◌⊎◌, ℕ, ◌<◌, ◌≤◌, ◌^◌, List, map, Option, Some, Contains, slice_get}
use Rattle.std.specs.BTreeMap.{get_by}
use Rattle.std.specs.Cmp.Lexicographic.{slice_cmp}
use Rattle.std.specs.Ordering.{nat_cmp}
use Rattle.fill_text.specs.Data.{TableData, cell_at, table_cell_at}
use Rattle.fill_tables.specs.Tables.{AreTables}
use Rattle.fill_arena.specs.Contents.{In, SomeIn, EachIn}
use Rattle.fill_reach.specs.Reach.{IsReached, IsReachedAt}
use Rattle.fill_reach.specs.Spots.{IsFree}
use Rattle.fill_reach.specs.declared.rows.ReachedRow.{ReachedRow}
use Rattle.fill_sources.specs.declared.row.OnRow.{OnRow}
use Rattle.fill_sources.specs.declared.texts.Named.{Named}
use Rattle.fill_sources.specs.declared.texts.Origin.{Origin}
use Rattle.fill_sources.specs.declared.texts.Origin.TheVariants.{Col, Cell}
use Rattle.fill_sources.specs.declared.texts.Texts.{Texts}

-- the texts in the order of their numbers
abbrev pub texts_in : Texts → List (List ℕ)
texts_in t = map (λ n. n.text.now) t.named.items

-- the number that was kept of a text
abbrev pub number_in : Texts → List ℕ → Option ℕ
number_in t v = get_by (λ y. slice_cmp nat_cmp v y.now) t.numbers

-- each text has its number, so each stands once, and comes from somewhere
pub record AreNumbered (t : Texts) : Type 0 where
  pub right : (k : ℕ) (n : Named) → slice_get t.named.items k ≡ Some n → number_in t n.text.now ≡ Some k
  pub there : (v : List ℕ) (k : ℕ) → number_in t v ≡ Some k → (n : Named) × (slice_get t.named.items k ≡ Some n) × (n.text.now ≡ v)
  pub some : EachIn (λ n. (o : Origin) × In o n.origins) t.named.items

-- the text is one of these, and comes from there
abbrev pub HasOrigin : List Named → List ℕ → Origin → Type 0
HasOrigin named v o = SomeIn (λ n. (n.text.now ≡ v) × In o n.origins) named

-- exactly the texts of the property, with what they come from, were put to the others
abbrev pub Grown : List Named → List Named → (List ℕ → Origin → Type 0) → Type 0
Grown old new Q = (v : List ℕ) (o : Origin) → HasOrigin new v o ↔ (HasOrigin old v o ⊎ Q v o)

-- what a text comes from on the row
abbrev pub IsOrigin : OnRow → List ℕ → Origin → Type 0
IsOrigin on v (Col column) = Contains on.sheet.now.inputs column × (column < 2 ^ 32) × (cell_at on.sheet.now on.row column ≡ Some v)
IsOrigin on v (Cell r column) = IsReached on.settings on.sheet.now on.tables.now on.row r
    × IsFree on.tables.now r.table r.key column × (table_cell_at on.tables.now r.table r.row column ≡ Some v)

-- the text is the row's cell in the column
abbrev pub IsInput : OnRow → ℕ → List ℕ → Origin → Type 0
IsInput on column v o = (column < 2 ^ 32) × (cell_at on.sheet.now on.row column ≡ Some v) × (o ≡ Col column)

-- the text is the cell of the table's row in a column that is free of the key
abbrev pub IsFreeIn : List TableData → ReachedRow → ℕ → List ℕ → Origin → Type 0
IsFreeIn tables r column v o =
    IsFree tables r.table r.key column × (table_cell_at tables r.table r.row column ≡ Some v) × (o ≡ Cell r column)

-- .. in some column
abbrev pub IsOfRow : List TableData → ReachedRow → List ℕ → Origin → Type 0
IsOfRow tables r v o = (column : ℕ) × IsFreeIn tables r column v o

-- the same of the first of the inputs, of the columns below a number, and of the first of the rows
abbrev pub InputsTo : OnRow → List ℕ → ℕ → List ℕ → Origin → Type 0
InputsTo on inputs n v o = (i : ℕ) × (column : ℕ) × (i < n) × (slice_get inputs i ≡ Some column) × IsInput on column v o

abbrev pub FreeTo : List TableData → ReachedRow → ℕ → List ℕ → Origin → Type 0
FreeTo tables r n v o = (column : ℕ) × (column < n) × IsFreeIn tables r column v o

abbrev pub RowsTo : List TableData → List ReachedRow → ℕ → List ℕ → Origin → Type 0
RowsTo tables rows n v o = (i : ℕ) × (r : ReachedRow) × (i < n) × (slice_get rows i ≡ Some r) × IsOfRow tables r v o

-- each row that a lookup of the grammar picks has a least depth of such a lookup
abbrev pub HasLeast : OnRow → Type 0
HasLeast on = (table key found depth : ℕ) → IsReachedAt on.settings on.sheet.now on.tables.now on.row table key found depth →
    (r : ReachedRow) × IsReached on.settings on.sheet.now on.tables.now on.row r × (r.table ≡ table) × (r.key ≡ key) × (r.row ≡ found) × (r.depth ≤ depth)

-- all texts of the row, each with all that it comes from
pub record AreTexts (on : OnRow) (t : Texts) : Type 0 where
  pub numbered : AreNumbered t
  pub exact : (v : List ℕ) (o : Origin) → HasOrigin t.named.items v o ↔ IsOrigin on v o
  pub least : HasLeast on
  pub tables : AreTables on.tables.now
