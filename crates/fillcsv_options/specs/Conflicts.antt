-- Options that do not go together, whatever each of them says.
use Rattle.std.specs.Prelude.{Bool, List, [], ◌∷◌, true, false, not, ◌&&◌, ◌||◌, bytes_eq}
use Rattle.std.specs.List.{list_any}
use Rattle.std.specs.Option.{option_map_or}
use Rattle.clap.specs.Words.{Text}
use Rattle.fillcsv_options.specs.Asked.{AskedData, Key, LookupData, Table}

abbrev pub has_none : {D : Type 0} → List D → Bool
has_none [] = true
has_none (one ∷ more) = false

-- the column is emptied, and there is no example and no reply to learn from
abbrev pub learns_nothing : AskedData → Bool
learns_nothing asked = asked.replace && (not asked.ask && has_none asked.examples)

-- a table is read from the file of this path
abbrev pub is_table_at : Text → LookupData → Bool
is_table_at path (Table name file) = bytes_eq file path
is_table_at path (Key table columns) = false

-- the file of this path is read: it is the sheet, or a table
abbrev pub is_read : AskedData → Text → Bool
is_read asked path = bytes_eq asked.file path || list_any (is_table_at path) asked.lookups

-- the rule would be written over a file that is read
abbrev pub saves_over : AskedData → Bool
saves_over asked = option_map_or (is_read asked) asked.save false

abbrev pub conflicts : AskedData → Bool
conflicts asked = learns_nothing asked || saves_over asked
