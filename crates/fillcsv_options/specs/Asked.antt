-- What words ask for, as plain data.
use Rattle.std.specs.Prelude.{ℕ, Bool, List, Option, map, option_map, string_bytes, ⊤}
use Rattle.clap.specs.Words.{Text}
use Rattle.fill_tables.specs.Keys.{AreKeyColumns}
use Rattle.fillcsv_options.specs.declared.asked.Asked.{Asked}
use Rattle.fillcsv_options.specs.declared.asked.Depth.{Depth}
use Rattle.fillcsv_options.specs.declared.asked.ProfileName.{ProfileName}
use Rattle.fillcsv_options.specs.declared.asked.Saved.{Saved}
use Rattle.fillcsv_options.specs.declared.asked.Lookup.{Lookup}
use Rattle.fillcsv_options.specs.declared.asked.Lookup.TheVariants as lookup
use Rattle.fillcsv_options.specs.declared.asked.Target.{Target}
use Rattle.fillcsv_options.specs.declared.asked.Target.TheVariants as target
use Rattle.fillcsv_options.specs.declared.asked.Typed.{Typed}

-- the column that is filled: one that is there, by its name or its number, or a new one of this name
pub data TargetData : Type 0 where
  There : Text → TargetData
  New : Text → TargetData

abbrev pub target_data : Target → TargetData
target_data (target.There column) = There (string_bytes column)
target_data (target.New name) = New (string_bytes name)

-- an example: a row as a spreadsheet shows it, and the text that its cell shall have
pub record TypedData : Type 0 where
  pub row : ℕ
  pub text : Text

abbrev pub typed_data : Typed → TypedData
typed_data e = record { row = e.row; text = string_bytes e.text }

-- a lookup table, by its name and the path of its file, or columns of the table of a name that tell its rows apart
pub data LookupData : Type 0 where
  Table : Text → Text → LookupData
  Key : Text → List ℕ → LookupData

abbrev pub lookup_data : Lookup → LookupData
lookup_data (lookup.Table name file) = Table (string_bytes name) (string_bytes file)
lookup_data (lookup.Key table columns) = Key (string_bytes table) columns.items

-- the columns of a key are one to three, and no two of them are equal
abbrev pub IsLookup : LookupData → Type 0
IsLookup (Table name file) = ⊤
IsLookup (Key table columns) = AreKeyColumns columns

-- what words ask for, as `Asked` says it
pub record AskedData : Type 0 where
  pub file : Text
  pub to : TargetData
  pub from : List Text
  pub header : Bool
  pub examples : List TypedData
  pub replace : Bool
  pub lookups : List LookupData
  pub depth : Depth
  pub states : Bool
  pub only_sure : Bool
  pub profile : ProfileName
  pub quiet : Bool
  pub explain : Bool
  pub ask : Bool
  pub strict : Bool
  pub save : Option Text

abbrev pub data_of : Asked → AskedData
data_of a = record {
  file = string_bytes a.file;
  to = target_data a.to;
  from = map string_bytes a.from.items;
  header = a.header;
  examples = map typed_data a.examples.items;
  replace = a.replace;
  lookups = map lookup_data a.lookups.items;
  depth = a.depth;
  states = a.states;
  only_sure = a.only_sure;
  profile = a.profile;
  quiet = a.quiet;
  explain = a.explain;
  ask = a.ask;
  strict = a.strict;
  save = option_map string_bytes a.save;
}

-- a saved rule that is run: the path of its file, and whether nothing is told of a run that succeeds
pub record SavedData : Type 0 where
  pub rule : Text
  pub quiet : Bool

abbrev pub saved_data : Saved → SavedData
saved_data s = record { rule = string_bytes s.rule; quiet = s.quiet }
