-- What holds of all that words can ask for.
use Rattle.std.specs.Prelude.{◌≡◌, ◌≢◌, ◌⊎◌, true, false, [], Some, All, ⊤}
use Rattle.clap.specs.Words.{Text}
use Rattle.fillcsv_options.specs.Asked.{AskedData, IsLookup, Key, LookupData, Table}

-- a table is read from another file
abbrev pub IsElsewhere : Text → LookupData → Type 0
IsElsewhere path (Table name file) = file ≢ path
IsElsewhere path (Key table columns) = ⊤

-- nothing that is read is written over; a column is emptied only where there is something to learn from; what asks is not
-- quiet; and keys are proper
pub record IsSound (asked : AskedData) : Type 0 where
  pub sheet_apart : (path : Text) → asked.save ≡ Some path → asked.file ≢ path
  pub tables_apart : (path : Text) → asked.save ≡ Some path → All (IsElsewhere path) asked.lookups
  pub learns : asked.replace ≡ true → (asked.ask ≡ true) ⊎ (asked.examples ≢ [])
  pub loud : asked.quiet ≡ true → asked.ask ≡ false
  pub lookups : All IsLookup asked.lookups
