-- The lines that say why a file can't be read or is refused.
use Rattle.std.specs.Prelude.{ℕ, List, ◌++◌, codes, string_bytes}
use Rattle.std.specs.Fmt.{decimal}
use Rattle.fill_apply.specs.declared.error.ApplyError.{ApplyError}
use Rattle.fill_apply.specs.declared.error.ApplyError.TheVariants as apply
use Rattle.fill_script.specs.declared.error.ScriptError.{ScriptError}
use Rattle.fill_script.specs.declared.error.ScriptError.TheVariants as script
use Rattle.fill_sheet.specs.declared.error.SheetError.{SheetError}
use Rattle.fill_sheet.specs.declared.error.SheetError.TheVariants as sheet
use Rattle.fill_tables.specs.declared.error.TableError.{TableError}
use Rattle.fill_tables.specs.declared.error.TableError.TheVariants as table
use Rattle.fill_open.specs.Refusal.{RefusalData}
use Rattle.fill_open.specs.declared.fault.Fault.{Fault}
use Rattle.fill_open.specs.declared.fault.Fault.TheVariants as fault
use Rattle.fill_opening.specs.declared.stop.Stop.{Stop}
use Rattle.fill_opening.specs.declared.stop.Stop.TheVariants as stop

-- a text about a record, by its number
abbrev pub record_text : ℕ → List ℕ → List ℕ
record_text number text = codes "record " ++ (decimal number ++ text)

-- more records than a file may have
abbrev pub limit_text : ℕ → List ℕ
limit_text limit = codes "more than " ++ (decimal limit ++ codes " records")

abbrev pub script_text : ScriptError → List ℕ
script_text (script.TooManyRecords limit) = limit_text limit
script_text (script.NotUtf8 number) = record_text number (codes " is not UTF-8")
script_text (script.BadRecord number) = record_text number (codes " is not understood")
script_text (script.Again number) = record_text number (codes " comes again")
script_text script.MissingSheet = codes "no sheet"
script_text script.MissingInputs = codes "no inputs"
script_text script.MissingBegin = codes "no begin"
script_text script.NoMemory = codes "out of memory"

abbrev pub sheet_text : SheetError → List ℕ
sheet_text (sheet.TooManyRows limit) = limit_text limit
sheet_text (sheet.NotUtf8 number column) = record_text number (codes " is not UTF-8")
sheet_text sheet.NoMemory = codes "out of memory"

abbrev pub table_text : TableError → List ℕ
table_text (table.TooManyTables limit) = codes "too many tables"
table_text (table.SameName first) = codes "the name is taken"
table_text (table.TooManyRows limit) = limit_text limit
table_text (table.NotUtf8 number column) = record_text number (codes " is not UTF-8")
table_text table.NoSuchTable = codes "no such table"
table_text (table.NoSuchColumn columns) = codes "no such column"
table_text (table.TooManyKeys limit) = codes "too many keys"
table_text (table.NotAKey row other) = codes "rows " ++ (decimal row ++ (codes " and " ++ (decimal other ++ codes " agree in the key")))
table_text table.NoMemory = codes "out of memory"

abbrev pub program_text : ApplyError → List ℕ
program_text apply.NoSwitch = codes "no switch"
program_text (apply.BadSwitch at) = codes "switch is wrong at byte " ++ decimal at
program_text (apply.NoInput column) = codes "column " ++ (decimal column ++ codes " is no input")
program_text apply.NoMemory = codes "out of memory"

-- what is wrong with a file
abbrev pub fault_text : Fault → List ℕ
fault_text fault.TooLong = codes "more than 16777216 bytes"
fault_text (fault.Script e) = script_text e
fault_text (fault.Sheet e) = sheet_text e
fault_text (fault.Table e) = table_text e
fault_text (fault.Line number e) = record_text number (codes ": " ++ table_text e)
fault_text (fault.Program e) = program_text e
fault_text fault.TooWide = codes "more than 32 columns"

-- the line of a file's name and of a text
abbrev pub line_of : List ℕ → List ℕ → List ℕ
line_of name text = codes "flashfill: " ++ (name ++ (codes ": " ++ (text ++ codes "\n")))

abbrev pub refusal_line : RefusalData → List ℕ
refusal_line r = line_of r.file (fault_text r.fault)

abbrev pub unread_line : List ℕ → List ℕ
unread_line name = line_of name (codes "cannot be read")

abbrev pub memory_line : List ℕ
memory_line = codes "flashfill: out of memory\n"

-- the line of a stop
abbrev pub stop_line : Stop RefusalData → List ℕ
stop_line (stop.Unread name) = unread_line (string_bytes name)
stop_line (stop.Refused r) = refusal_line r
stop_line stop.NoMemory = memory_line
