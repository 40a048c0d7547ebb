-- The steps of a session: which files it reads, in what order they are checked, and what they open.
use Rattle.fill_edge.specs.declared.outside.TheConstants.{LARGEST_FILE}
use Rattle.std.specs.Prelude.{ℕ, nat_lt, Bool, if◌then◌else◌, List, [], ◌∷◌, length, codes, Option, Some, None, encode_utf8_all}
use Rattle.fill_text.specs.Data.{SheetData, TableData}
use Rattle.fill_sheet.specs.Sheet.{read_sheet}
use Rattle.fill_tables.specs.Tables.{add_table_to, add_key_to}
use Rattle.fill_script.specs.Script.{read_script}
use Rattle.fill_script.specs.declared.script.Script.{Script}
use Rattle.fill_script.specs.declared.script.TableLine.{TableLine}
use Rattle.fill_script.specs.declared.script.TableLine.TheVariants.{Table, Key}
use Rattle.fill_open.specs.Made.{made_session, made_sheet}
use Rattle.fill_opening.specs.Opened.{Held, Opened, Opening, Unread, Refused, Passed, at_once, and_then, checked}
use Rattle.fill_open.specs.Refusal.{RefusalData, key_refusal, refusal, table_refusal}
use Rattle.fill_open.specs.declared.fault.Fault.TheVariants as fault
use Rattle.fill_open.specs.declared.session.Ready.{Ready}

-- a file has more bytes than one may have
abbrev pub is_too_long : List ℕ → Bool
is_too_long bytes = nat_lt LARGEST_FILE (length bytes)

-- the bytes of a file that is there and not too long
abbrev pub bytes_of : List ℕ → Option (List ℕ) → Opened RefusalData (List ℕ)
bytes_of name None = Unread name
bytes_of name (Some bytes) = if is_too_long bytes then Refused (refusal name fault.TooLong) else Passed bytes

-- the file of this name is read
abbrev pub file_opens : Held → List ℕ → Opening RefusalData (List ℕ)
file_opens held name = record { reads = name ∷ []; outcome = bytes_of name (held name) }

-- the script of a session's bytes
abbrev pub script_in : List ℕ → List ℕ → Opened RefusalData Script
script_in session bytes = checked (λ e. refusal session (fault.Script e)) (read_script bytes)

-- the session file is read and checked
abbrev pub script_opens : Held → List ℕ → Opening RefusalData Script
script_opens held session = and_then (file_opens held session) (λ bytes. at_once (script_in session bytes))

-- the sheet in the bytes of the file of a name, by a script's header line and inputs, with an output column or none
abbrev pub sheet_in : Script → Option ℕ → List ℕ → List ℕ → Opened RefusalData SheetData
sheet_in script output name bytes = checked (λ e. refusal name (fault.Sheet e)) (read_sheet script.header script.inputs output bytes)

-- the file of such a sheet is read and checked
abbrev pub sheet_opens : Held → Script → Option ℕ → List ℕ → Opening RefusalData SheetData
sheet_opens held script output name = and_then (file_opens held name) (λ bytes. at_once (sheet_in script output name bytes))

-- the tables with the one of a file's bytes, which a line of the session names
abbrev pub table_in : List ℕ → ℕ → List ℕ → List ℕ → List TableData → List ℕ → Opened RefusalData (List TableData)
table_in session number file name tables bytes = checked (table_refusal session number file) (add_table_to tables name bytes)

-- the tables after a line: for a table its file is read, and then the table is added; for a key nothing is read
abbrev pub line_opens : Held → List ℕ → List TableData → TableLine → Opening RefusalData (List TableData)
line_opens held session tables (Table number name file) =
    and_then (file_opens held (encode_utf8_all file)) (λ bytes. at_once (table_in session number (encode_utf8_all file) name tables bytes))
line_opens held session tables (Key number name columns) = at_once (checked (key_refusal session number) (add_key_to tables name columns))

-- the tables after lines, one after the other
abbrev pub tables_open : Held → List ℕ → List TableData → List TableLine → Opening RefusalData (List TableData)
tables_open held session tables [] = at_once (Passed tables)
tables_open held session tables (line ∷ more) = and_then (line_opens held session tables line) (λ after. tables_open held session after more)

-- a script and its sheet, and then its tables and keys
abbrev pub from_sheet : Held → List ℕ → Script → SheetData → Opening RefusalData Ready
from_sheet held name script sheet =
    and_then (tables_open held name [] script.tables) (λ tables. at_once (Passed (record { script = script; sheet = sheet; tables = tables })))

-- a script, and then its sheet and the rest
abbrev pub from_script : Held → List ℕ → Script → Opening RefusalData Ready
from_script held name script = and_then (sheet_opens held script script.output (encode_utf8_all script.sheet)) (from_sheet held name script)

-- a session file, its sheet, and then its tables and keys
abbrev pub replay_opens : Held → List ℕ → Opening RefusalData Ready
replay_opens held name = and_then (script_opens held name) (from_script held name)

-- the name that a generated session file would have
abbrev pub made_name : List ℕ
made_name = codes "made"

-- the generated session and its sheet, for which no file is read; it has no tables
abbrev pub made_opens : ℕ → Opening RefusalData Ready
made_opens n =
    and_then (at_once (script_in made_name made_session)) (λ script.
    and_then (at_once (sheet_in script script.output (encode_utf8_all script.sheet) (made_sheet n))) (λ sheet.
    at_once (Passed (record { script = script; sheet = sheet; tables = [] }))))
