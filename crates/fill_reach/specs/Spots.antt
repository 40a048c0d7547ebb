-- The rows of tables by their keys, and the texts in their cells.
use Rattle.std.specs.Prelude.{◌≡◌, ℕ, ◌⊎◌, ◌<◌, ◌≤◌, ◌^◌, ◌↔◌, List, Some, All, Contains, length, map, slice_range}
use Rattle.std.specs.Char.{IsScalar}
use Rattle.std.specs.declared.cmp.Ordering.{Ordering}
use Rattle.std.specs.Ordering.{nat_cmp, ordering_then}
use Rattle.fill_text.specs.Data.{SheetData, TableData, cell_at, key_at, table_cell_at, width_at}
use Rattle.fill_tables.specs.Tables.{key_count, row_count}
use Rattle.fill_text.specs.Lists.{Adds}
use Rattle.fill_reach.specs.declared.rows.ReachedRow.{ReachedRow}

-- a row of a table by a key
pub record Spot : Type 0 where
  pub table : ℕ
  pub key : ℕ
  pub row : ℕ

abbrev pub spot_of : ReachedRow → Spot
spot_of r = record { table = r.table; key = r.key; row = r.row }

abbrev pub spot_cmp : Spot → Spot → Ordering
spot_cmp a b = ordering_then (nat_cmp a.table b.table) (ordering_then (nat_cmp a.key b.key) (nat_cmp a.row b.row))

-- a column of the table that is not one of the key's
abbrev pub IsFree : List TableData → ℕ → ℕ → ℕ → Type 0
IsFree tables table key column = (columns : List ℕ) × (width : ℕ) × (key_at tables table key ≡ Some columns)
    × (width_at tables table ≡ Some width) × (1 ≤ column) × (column ≤ width) × ¬ (Contains columns column)

abbrev pub HasFree : List TableData → ℕ → ℕ → Type 0
HasFree tables table key = (column : ℕ) × IsFree tables table key column

-- the numbers are those of a table and a key of it
pub record IsKeyOf (tables : List TableData) (table key : ℕ) : Type 0 where
  pub first : 1 ≤ table
  pub last : table ≤ length tables
  pub first_key : 1 ≤ key
  pub last_key : key ≤ key_count tables table

-- the table has the row and the key, and some column is free of the key
pub record IsSpot (tables : List TableData) (s : Spot) : Type 0 where
  pub keyed : IsKeyOf tables s.table s.key
  pub first : 1 ≤ s.row
  pub last : s.row ≤ row_count tables s.table
  pub free : HasFree tables s.table s.key

-- the row's cell in a column of the key
abbrev pub IsKeyCell : List TableData → Spot → List ℕ → Type 0
IsKeyCell tables s v = (columns : List ℕ) × (column : ℕ) × (key_at tables s.table s.key ≡ Some columns) × Contains columns column
    × (table_cell_at tables s.table s.row column ≡ Some v)

-- the row's cell in a column that is free of the key
abbrev pub IsFreeCell : List TableData → Spot → List ℕ → Type 0
IsFreeCell tables s v = (column : ℕ) × IsFree tables s.table s.key column × (table_cell_at tables s.table s.row column ≡ Some v)

-- the row's cell in an input column
abbrev pub IsInputCell : SheetData → ℕ → List ℕ → Type 0
IsInputCell sheet row v = (column : ℕ) × Contains sheet.inputs column × (column < 2 ^ 32) × (cell_at sheet row column ≡ Some v)

-- the characters are a piece of the text, and are some
abbrev pub IsPieceOf : List ℕ → List ℕ → Type 0
IsPieceOf v t = (a : ℕ) × (b : ℕ) × (a < b) × (b ≤ length t) × (v ≡ slice_range t a b)

-- they are a piece of some text of the property
abbrev pub IsPieceOfSome : (List ℕ → Type 0) → List ℕ → Type 0
IsPieceOfSome P v = (u : List ℕ) × P u × IsPieceOf v u

-- some key cell of the row is a piece of a text of the property
abbrev pub Touches : (List ℕ → Type 0) → List TableData → Spot → Type 0
Touches P tables s = (v : List ℕ) × IsKeyCell tables s v × IsPieceOfSome P v

abbrev pub KeepScalars : List TableData → Spot → Type 0
KeepScalars tables s = (v : List ℕ) → IsKeyCell tables s v → All IsScalar v

-- positions of the text are numbers of 32 bits with a sign
abbrev pub IsShort : List ℕ → Type 0
IsShort v = length v < 2 ^ 31

-- the texts are one more kind, in no order, and are short
pub record Gains (old new : List (List ℕ)) (Q : List ℕ → Type 0) : Type 0 where
  pub exact : (v : List ℕ) → Contains new v ↔ (Contains old v ⊎ Q v)
  pub short : All IsShort old → All IsShort new

-- the rows have grown by those of the property, in order, which are not reached yet
pub record AddsRows (old new : List ReachedRow) (Q : Spot → Type 0) : Type 0 where
  pub adds : Adds spot_cmp (map spot_of old) (map spot_of new) Q
  pub unmarked : All (λ r. r.depth ≡ 0) old → All (λ r. r.depth ≡ 0) new
