-- The search for minimal keys: sets of columns are made longer at their end, and the keys of fewer columns are known.
use Rattle.std.specs.Prelude.{◌≡◌, ◌↔◌, ℕ, ◌<◌, ◌≤◌, ◌++◌, List, length, All, Contains}
use Rattle.std.specs.List.{AllPairs}
use Rattle.fill_text.specs.Data.{TableData}
use Rattle.fill_keys.specs.Keys.{IsMinimalKey}

-- the key is of some of the columns, and of fewer
abbrev pub IsWithin : List ℕ → List ℕ → Type 0
IsWithin columns key = (length key < length columns) × All (Contains columns) key

-- minimal keys, among them all of fewer columns than this
pub record AreSmaller (tables : List TableData) (table size : ℕ) (keys : List (List ℕ)) : Type 0 where
  pub each : All (IsMinimalKey tables table) keys
  pub full : (key : List ℕ) → IsMinimalKey tables table key → length key < size → Contains keys key

-- the first columns of a set of this size, in a table of this width
pub record IsPrefix (width size : ℕ) (columns : List ℕ) : Type 0 where
  pub fits : length columns ≤ size
  pub within : All (λ column. (1 ≤ column) × (column ≤ width)) columns
  pub rising : AllPairs (λ a b. a < b) columns

-- the columns from this one on are those that can follow
abbrev pub IsNext : List ℕ → ℕ → Type 0
IsNext columns next = (column : ℕ) → (next ≤ column) ↔ ((1 ≤ column) × All (λ earlier. earlier < column) columns)

-- a minimal key of this size whose first columns are these
pub record BeginsMinimalKey (tables : List TableData) (table size : ℕ) (columns key : List ℕ) : Type 0 where
  pub minimal : IsMinimalKey tables table key
  pub sized : length key ≡ size
  pub begins : (rest : List ℕ) × (key ≡ columns ++ rest)
