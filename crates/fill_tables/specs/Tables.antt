-- Tables, and what they are after one more table or key.
use Rattle.std.specs.Prelude.{◌≡◌, ◌≢◌, ℕ, ◌+◌, ◌≤◌, ◌==◌, List, [], ◌∷◌, ◌++◌, length, position, All, AllPairs, if◌then◌else◌, nat_lt, Option, Some, None, Result, Ok, Err, option_map, unwrap_or}
use Rattle.std.specs.List.{list_any}
use Rattle.std.specs.Str.{bytes_eq}
use Rattle.fill_text.specs.Data.{TableData, nth, width_at}
use Rattle.fill_tables.specs.Rows.{first_clash}
use Rattle.fill_tables.specs.Reading.{read_table}
use Rattle.fill_tables.specs.Keys.{IsKey}
use Rattle.fill_tables.specs.declared.error.TableError.{TableError}
use Rattle.fill_tables.specs.declared.reading.TheConstants.{MOST_FIELDS, MOST_TABLE_ROWS}
use Rattle.fill_tables.specs.declared.table.TheConstants.{MOST_KEYS}
use Rattle.fill_tables.specs.declared.tables.TheConstants.{MOST_TABLES}
use Rattle.fill_tables.specs.declared.error.TableError.TheVariants.{TooManyTables, SameName, NoSuchTable, NoSuchColumn, TooManyKeys, NotAKey}

-- what is true of each table
pub record IsTable (table : TableData) : Type 0 where
  pub narrow : table.width ≤ MOST_FIELDS
  pub limited : length table.rows ≤ MOST_TABLE_ROWS
  pub full : All (λ row. length row ≡ table.width) table.rows
  pub few : length table.keys ≤ MOST_KEYS
  pub keyed : All (IsKey table.width table.rows) table.keys

-- what is true of all tables together
pub record AreTables (tables : List TableData) : Type 0 where
  pub few : length tables ≤ MOST_TABLES
  pub proper : All IsTable tables
  pub distinct : AllPairs (λ a b. a.name ≢ b.name) tables

-- how many rows a table has; 0 where there is no such table
abbrev pub row_count : List TableData → ℕ → ℕ
row_count tables table = unwrap_or (option_map (λ t. length t.rows) (nth tables table)) 0

-- how many columns a table has; 0 where there is no such table
abbrev pub column_count : List TableData → ℕ → ℕ
column_count tables table = unwrap_or (width_at tables table) 0

-- how many keys a table has; 0 where there is no such table
abbrev pub key_count : List TableData → ℕ → ℕ
key_count tables table = unwrap_or (option_map (λ t. length t.keys) (nth tables table)) 0

-- the place of the table of a name
abbrev pub place_of : List TableData → List ℕ → Option ℕ
place_of tables name = position (λ t. bytes_eq t.name name) tables

-- the tables with one more at the end, where it was read
abbrev pub with_table : List TableData → Result TableData TableError → Result (List TableData) TableError
with_table tables (Ok table) = Ok (tables ++ table ∷ [])
with_table tables (Err e) = Err e

-- a table of a name that another one has is refused
abbrev pub unless_named : Option ℕ → Result (List TableData) TableError → Result (List TableData) TableError
unless_named (Some place) more = Err (SameName (place + 1))
unless_named None more = more

-- the tables with that of a file's bytes at the end, where there is room for it and its name is new
abbrev pub add_table_to : List TableData → List ℕ → List ℕ → Result (List TableData) TableError
add_table_to tables name bytes =
    if length tables == MOST_TABLES then Err (TooManyTables MOST_TABLES) else unless_named (place_of tables name) (with_table tables (read_table name bytes))

-- columns in which two rows agree are no key
abbrev pub unless_clash : Option (ℕ × ℕ) → TableData → Result TableData TableError
unless_clash (Some clash) table = Err (NotAKey clash.0 clash.1)
unless_clash None table = Ok table

-- a table with one more key
abbrev pub with_key : TableData → List ℕ → Result TableData TableError
with_key table columns =
    if list_any (λ column. nat_lt table.width column) columns then Err (NoSuchColumn table.width)
    else if length table.keys == MOST_KEYS then Err (TooManyKeys MOST_KEYS)
    else unless_clash (first_clash columns table.rows) (record table { keys = table.keys ++ columns ∷ [] })

-- a table, where it was taken, before others
abbrev pub before : Result TableData TableError → List TableData → Result (List TableData) TableError
before (Ok table) more = Ok (table ∷ more)
before (Err e) more = Err e

-- a table before others, where they were taken
abbrev pub after : TableData → Result (List TableData) TableError → Result (List TableData) TableError
after table (Ok more) = Ok (table ∷ more)
after table (Err e) = Err e

-- the tables where the one of a name has one more key
abbrev pub add_key_to : List TableData → List ℕ → List ℕ → Result (List TableData) TableError
add_key_to [] name columns = Err NoSuchTable
add_key_to (table ∷ more) name columns =
    if bytes_eq table.name name then before (with_key table columns) more else after table (add_key_to more name columns)
