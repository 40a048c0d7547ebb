-- Minimal keys of a table: sets of columns that tell all of its rows apart, and of which no smaller part does.
use Rattle.std.specs.Prelude.{◌≡◌, ℕ, ◌<◌, ◌≤◌, List, length, All, Contains}
use Rattle.std.specs.List.{AllPairs}
use Rattle.std.specs.Ordering.{nat_cmp, on, then_cmp}
use Rattle.std.specs.declared.cmp.Ordering.{Ordering}
use Rattle.std.specs.Cmp.Lexicographic.{slice_cmp}
use Rattle.fill_text.specs.Data.{TableData}
use Rattle.fill_tables.specs.Keys.{DistinguishRows}
use Rattle.fill_tables.specs.Tables.{column_count}
use Rattle.fill_keys.specs.declared.error.KeysError.{KeysError}
use Rattle.fill_keys.specs.declared.error.KeysError.TheVariants.{TooWide, NoMemory}

-- a set of one to three columns of a table of this width, by their numbers in rising order
pub record AreColumns (width : ℕ) (columns : List ℕ) : Type 0 where
  pub some : 1 ≤ length columns
  pub few : length columns ≤ 3
  pub within : All (λ column. (1 ≤ column) × (column ≤ width)) columns
  pub rising : AllPairs (λ a b. a < b) columns

-- some of the columns, and fewer than all, in rising order
pub record IsProperPart (columns part : List ℕ) : Type 0 where
  pub some : 1 ≤ length part
  pub fewer : length part < length columns
  pub among : All (Contains columns) part
  pub rising : AllPairs (λ a b. a < b) part

-- the columns tell all rows of the table apart, and no proper part of them does
pub record IsMinimalKey (tables : List TableData) (table : ℕ) (columns : List ℕ) : Type 0 where
  pub set : AreColumns (column_count tables table) columns
  pub distinguish : DistinguishRows tables table columns
  pub minimal : (part : List ℕ) → IsProperPart columns part → ¬ (DistinguishRows tables table part)

-- by the number of columns, and then from the left
abbrev pub keys_cmp : List ℕ → List ℕ → Ordering
keys_cmp = then_cmp (on length nat_cmp) (slice_cmp nat_cmp)

-- why the keys of a table of this width are not listed: it has more than 32 columns, or else memory is wanting
abbrev pub Refuses : ℕ → KeysError → Type 0
Refuses width (TooWide told) = (32 < width) × (told ≡ width)
Refuses width NoMemory = width ≤ 32
