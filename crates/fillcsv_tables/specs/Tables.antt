-- The steps that add lookup tables and their keys.
use Rattle.std.specs.Prelude.{ℕ, List, [], ◌∷◌}
use Rattle.std.specs.Str.{chars}
use Rattle.fill_text.specs.Data.{TableData}
use Rattle.fill_tables.specs.Tables.{add_key_to, add_table_to}
use Rattle.fill_opening.specs.Opened.{Held, Opened, Opening, Passed, and_then, at_once, checked}
use Rattle.fillcsv_options.specs.Words.{LookupData, Key, Table}
use Rattle.fillcsv_tables.specs.Files.{file_opens, most_of_table}
use Rattle.fillcsv_tables.specs.Lines.{lookup_line}

-- the tables with that of a file's bytes
abbrev pub table_in : List ℕ → List ℕ → List TableData → List ℕ → Opened (List ℕ) (List TableData)
table_in name file tables bytes = checked (lookup_line file) (add_table_to tables (chars name) bytes)

-- the tables with a key
abbrev pub key_in : List ℕ → List ℕ → List TableData → Opened (List ℕ) (List TableData)
key_in name columns tables = checked (lookup_line name) (add_key_to tables (chars name) columns)

-- the tables with one more: its file is read, and then it is added. Or with one more key
abbrev pub lookup_opens : Held → List TableData → LookupData → Opening (List ℕ) (List TableData)
lookup_opens held tables (Table name file) = and_then (file_opens most_of_table held file) (λ bytes. at_once (table_in name file tables bytes))
lookup_opens held tables (Key name columns) = at_once (key_in name columns tables)

-- the tables with these and their keys, one after the other
abbrev pub lookups_open : Held → List TableData → List LookupData → Opening (List ℕ) (List TableData)
lookups_open held tables [] = at_once (Passed tables)
lookups_open held tables (lookup ∷ more) = and_then (lookup_opens held tables lookup) (λ after. lookups_open held after more)
