-- The session file: the script that its records spell, or the one refusal.
use Rattle.std.specs.Prelude.{ℕ, ◌+◌, ◌==◌, List, length, take, drop, position, All, Option, Some, None, Result, Ok, Err, Bool, true, false, if◌then◌else◌, nat_lt, unwrap_or, ⊤}
use Rattle.fill_records.specs.Records.{records_of}
use Rattle.fill_sheet.specs.Columns.{AreInputs, IsOutput}
use Rattle.fill_tables.specs.Keys.{AreKeyColumns}
use Rattle.fill_tree.specs.Grammar.{AreSettings}
use Rattle.fill_tree.specs.declared.profile.Profile.{Profile}
use Rattle.fill_tree.specs.declared.profile.TheConstants.Profile as profile
use Rattle.fill_tree.specs.declared.user.Constants.TheVariants.{Any}
use Rattle.fill_tree.specs.declared.user.Settings.{Settings}
use Rattle.fill_script.specs.Line.{is_begin}
use Rattle.fill_script.specs.Opening.{unset, onward, after_lines}
use Rattle.fill_script.specs.Entries.{IsEntry, entries_from}
use Rattle.fill_script.specs.declared.error.ScriptError.{ScriptError}
use Rattle.fill_script.specs.declared.error.ScriptError.TheVariants as error
use Rattle.fill_script.specs.declared.opening.Opening.{Opening}
use Rattle.fill_script.specs.declared.script.Entry.{Entry}
use Rattle.fill_script.specs.declared.script.Script.{Script}
use Rattle.fill_script.specs.declared.script.TheConstants.{MOST_LINES}
use Rattle.fill_script.specs.declared.script.TableLine.{TableLine}
use Rattle.fill_script.specs.declared.script.TableLine.TheVariants.{Table, Key}

-- the profile of a number of the session file
abbrev pub profile_of : ℕ → Profile
profile_of number = if number == 2 then profile.SECOND else profile.FIRST

-- the settings: depth 1, any constants and the first profile where no line says otherwise
abbrev pub settings_of : Opening → Settings
settings_of o = record { depth = unwrap_or o.depth 1; constants = unwrap_or o.constants Any; profile = profile_of (unwrap_or o.profile 1) }

-- the script of a sheet, inputs and entries, and of what else was set
abbrev pub assembled : Opening → List ℕ → List ℕ → List Entry → Script
assembled o sheet inputs entries =
    record { sheet = sheet; header = o.header; inputs = inputs; output = o.output; tables = o.tables; settings = settings_of o; entries = entries }

-- the script of what was set before `begin` and of the lines after it; a sheet and inputs must be set
abbrev pub script_with : Opening → Option (List ℕ) → Option (List ℕ) → Result (List Entry) ScriptError → Result Script ScriptError
script_with o None inputs entries = Err error.MissingSheet
script_with o (Some sheet) None entries = Err error.MissingInputs
script_with o (Some sheet) (Some inputs) entries = onward (λ es. Ok (assembled o sheet inputs es)) entries

-- the refusal of the line after the last that there may be, where there is one
abbrev pub unless_more : {A : Type 0} → Bool → Result A ScriptError → Result A ScriptError
unless_more true found = onward (λ _. Err (error.TooManyRecords MOST_LINES)) found
unless_more false found = found

-- the script of lines with `begin` at a place, from 0
abbrev pub script_from : List (List (List ℕ)) → Bool → Option ℕ → Result Script ScriptError
script_from lines more None = onward (λ _. Err (if more then error.TooManyRecords MOST_LINES else error.MissingBegin)) (after_lines unset 1 lines)
script_from lines more (Some place) =
    onward (λ o. script_with o o.sheet o.inputs (unless_more more (entries_from (place + 2) (drop (place + 1) lines)))) (after_lines unset 1 (take place lines))

-- the script of these lines, where further lines follow or none
abbrev pub script_in : List (List (List ℕ)) → Bool → Result Script ScriptError
script_in lines more = script_from lines more (position is_begin lines)

-- the script of these records: of as many as there may be, where the next one breaks a rule
abbrev pub script_of : List (List (List ℕ)) → Result Script ScriptError
script_of records = script_in (take MOST_LINES records) (nat_lt MOST_LINES (length records))

-- the script of a session file's bytes
unfoldable pub read_script : List ℕ → Result Script ScriptError
read_script bytes = script_of (records_of bytes)

-- the columns of a key line can be a key's
abbrev pub IsTableLine : TableLine → Type 0
IsTableLine (Table number name file) = ⊤
IsTableLine (Key number name columns) = AreKeyColumns columns

-- what is true of each script
pub record IsScript (script : Script) : Type 0 where
  pub inputs : AreInputs script.inputs
  pub output : IsOutput script.inputs script.output
  pub tables : All IsTableLine script.tables
  pub settings : AreSettings script.settings
  pub entries : All IsEntry script.entries
