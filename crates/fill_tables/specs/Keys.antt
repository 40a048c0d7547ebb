-- Keys: columns in which no two rows of a table agree.
use Rattle.std.specs.Prelude.{◌≡◌, ◌≢◌, ℕ, ◌≤◌, List, length, map, All, AllPairs, Some}
use Rattle.fill_text.specs.Data.{TableData, nth, key_at, table_row_at}

-- columns that a key can be of
pub record AreKeyColumns (columns : List ℕ) : Type 0 where
  pub some : 1 ≤ length columns
  pub few : length columns ≤ 3
  pub first : All (λ column. 1 ≤ column) columns
  pub distinct : AllPairs (λ a b. a ≢ b) columns

-- no two of these rows have the same cells in these columns
abbrev pub Distinguish : List ℕ → List (List (List ℕ)) → Type 0
Distinguish columns rows = (row other : ℕ) (cells others : List (List ℕ)) → nth rows row ≡ Some cells → nth rows other ≡ Some others
    → map (nth cells) columns ≡ map (nth others) columns → row ≡ other

-- columns are a key of a table of this width and these rows
pub record IsKey (width : ℕ) (rows : List (List (List ℕ))) (columns : List ℕ) : Type 0 where
  pub are : AreKeyColumns columns
  pub within : All (λ column. column ≤ width) columns
  pub distinguish : Distinguish columns rows

-- the cells of the table's row in the columns of the key are these
abbrev pub IsKeyedRow : List TableData → ℕ → ℕ → List (List ℕ) → ℕ → Type 0
IsKeyedRow tables table key texts row = (columns : List ℕ) × (cells : List (List ℕ)) × (key_at tables table key ≡ Some columns)
    × (table_row_at tables table row ≡ Some cells) × (map (nth cells) columns ≡ map Some texts)

-- no two rows of a table have the same cells in these columns
abbrev pub DistinguishRows : List TableData → ℕ → List ℕ → Type 0
DistinguishRows tables table columns = (row other : ℕ) (cells others : List (List ℕ)) →
    table_row_at tables table row ≡ Some cells → table_row_at tables table other ≡ Some others →
    map (nth cells) columns ≡ map (nth others) columns → row ≡ other

-- no two rows of a table have the same cells in the columns of one of its keys
abbrev pub KeysDistinguish : List TableData → Type 0
KeysDistinguish tables = (table key row other : ℕ) (columns : List ℕ) (cells others : List (List ℕ)) →
    key_at tables table key ≡ Some columns → table_row_at tables table row ≡ Some cells → table_row_at tables table other ≡ Some others →
    map (nth cells) columns ≡ map (nth others) columns → row ≡ other
