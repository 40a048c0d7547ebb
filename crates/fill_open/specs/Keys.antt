-- The steps of listing the keys of a table: which file they read, how it is checked, and what its keys are.
use Rattle.std.specs.Prelude.{◌≡◌, ℕ, nat_lt, List, [], if◌then◌else◌}
use Rattle.std.specs.Str.{chars}
use Rattle.fill_text.specs.Data.{TableData}
use Rattle.fill_text.specs.Lists.{Lists}
use Rattle.fill_edge.specs.Outside.{Files}
use Rattle.fill_tables.specs.Tables.{add_table_to, column_count}
use Rattle.fill_keys.specs.Keys.{IsMinimalKey, keys_cmp}
use Rattle.fill_opening.specs.Opened.{Held, Told, Opened, Opening, Refused, Passed, at_once, and_then, checked}
use Rattle.fill_open.specs.Refusal.{RefusalData, refusal}
use Rattle.fill_open.specs.Steps.{file_opens}
use Rattle.fill_open.specs.declared.fault.Fault.TheVariants as fault

-- the table that a file's bytes spell, alone and by the name of the file
abbrev pub only_table_in : List ℕ → List ℕ → Opened RefusalData (List TableData)
only_table_in file bytes = checked (λ e. refusal file (fault.Table e)) (add_table_to [] (chars file) bytes)

-- a table of more than 32 columns is refused
abbrev pub unless_wide : List ℕ → List TableData → Opened RefusalData (List TableData)
unless_wide file tables = if nat_lt 32 (column_count tables 1) then Refused (refusal file fault.TooWide) else Passed tables

-- the check of a file's bytes: the table, and then its width
abbrev pub narrow_table_opens : List ℕ → List ℕ → Opening RefusalData (List TableData)
narrow_table_opens file bytes = and_then (at_once (only_table_in file bytes)) (λ tables. at_once (unless_wide file tables))

-- the file is read and checked
abbrev pub keys_opens : List ℕ → Held → Opening RefusalData (List TableData)
keys_opens file held = and_then (file_opens held file) (λ bytes. narrow_table_opens file bytes)

-- the minimal keys of the one table, by their number of columns and then from the left
abbrev pub AreKeys : List TableData → List (List ℕ) → Type 0
AreKeys tables keys = Lists keys_cmp (IsMinimalKey tables 1) keys

-- the steps passed, and these are the keys of the table
abbrev pub OpensKeys : Files → List ℕ → List (List ℕ) → Type 0
OpensKeys files file keys = (tables : List TableData) × Told files (λ held. (keys_opens file held).outcome ≡ Passed tables) × AreKeys tables keys
