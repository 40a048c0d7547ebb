-- A sheet as the code has read it.
use Rattle.std.specs.Prelude.{◌≡◌, ◌≤◌, ◌++◌, ℕ, List, [], All, Bool, IfSome, Result, Ok, Err, Option, None, Some, ⊤, length, map, option_map, option_to_list, string_bytes, unwrap_or}
use Rattle.std.specs.List.{list_any}
use Rattle.fill_text.specs.Data.{SheetData, TableData}
use Rattle.fill_edge.specs.Outside.{Files}
use Rattle.fill_records.specs.Records.{records_of}
use Rattle.fill_records.specs.Texts.{IsText}
use Rattle.fill_sheet.specs.Columns.{AreInputs, IsOutput, rising}
use Rattle.fill_sheet.specs.Sheet.{read_up_to}
use Rattle.fill_tree.specs.Grammar.{AreSettings}
use Rattle.fill_tree.specs.declared.user.Example.{Example}
use Rattle.fill_states.specs.declared.row_state.RowState.{RowState}
use Rattle.fillcsv_columns.specs.Choice.{choice_data}
use Rattle.fillcsv_columns.specs.declared.choice.Choice.{Choice}
use Rattle.fill_stream.specs.Fronts.{is_marked}
use Rattle.fill_opening.specs.Opened.{Held, Passed, Refused}
use Rattle.fill_opening.specs.Stops.{Refuses}
use Rattle.fill_opening.specs.declared.stop.Stop.{Stop}
use Rattle.fill_opening.specs.declared.stop.Stop.TheVariants as stop
use Rattle.fillcsv_columns.specs.Columns.{width}
use Rattle.fillcsv_rows.specs.Filled.{AreCellStates, WritesRows, is_unsure}
use Rattle.fillcsv_rows.specs.Learned.{AreLearned}
use Rattle.fillcsv_blocks.specs.Blocks.{StandsFor}
use Rattle.fillcsv_filling.specs.Long.{LongData, ground_of, rows_in, rows_of, sheet_over}
use Rattle.fillcsv_options.specs.Words.{AskedData, lookup_data}
use Rattle.fillcsv_run.specs.Opening.{SheetRead, header_of, most_records, output_of, records_in, rows_in as rows_in_file, sheet_in as sheet_in_file}
use Rattle.fillcsv_run.specs.Saved.{FrameData}
use Rattle.fillcsv_run.specs.Asking.{AreTyped, Heard}
use Rattle.fillcsv_run.specs.Ends.{Opens}
use Rattle.fillcsv_run.specs.Pages.{PageData, page_of, with_typed}
use Rattle.fillcsv_run.specs.declared.desk.Desk.{Desk}
use Rattle.fillcsv_run.specs.declared.fill.Filled.{Filled}
use Rattle.fillcsv_run.specs.declared.saving.RuleFrame.{RuleFrame}
use Rattle.fillcsv_run.specs.declared.opening.SheetFile.{SheetFile as Code}

-- the sheet of all rows of bytes in these columns
abbrev pub sheet_in : Bool → List ℕ → Option ℕ → List ℕ → SheetData
sheet_in header inputs output bytes = sheet_over inputs output (rows_in header bytes)

-- the bytes can be read as the sheet of all their rows: the fields in the columns are UTF-8, and the records are few enough
pub record AreReadable (header : Bool) (inputs : List ℕ) (output : Option ℕ) (bytes : List ℕ) : Type 0 where
  pub whole : read_up_to most_records header inputs output bytes ≡ Ok (sheet_in header inputs output bytes)
  pub text : All (IsText (rising inputs ++ option_to_list output)) (rows_in header bytes)
  pub few : length (records_of bytes) ≤ most_records

-- the bytes of a file, none where there is no such file
abbrev pub bytes_in : Held → List ℕ → List ℕ
bytes_in held name = unwrap_or (held name) []

-- a fact of the bytes of a file, where files are told
abbrev pub OfFile : Files → List ℕ → (List ℕ → Type 0) → Type 0
OfFile None name P = ⊤
OfFile (Some held) name P = P (bytes_in held name)

-- what it stands for over the bytes of its file
abbrev pub read_data : AskedData → List ℕ → Code → SheetRead
read_data asked bytes r = record {
  bytes = bytes;
  choice = choice_data r.choice;
  sheet = sheet_in asked.header r.choice.from.items (output_of asked.replace r.choice.to) bytes;
  typed = r.typed;
  tables = r.tables;
}

-- what the frame of a rule stands for
abbrev pub frame_data : RuleFrame → FrameData
frame_data f = record { names = f.names; inputs = f.inputs.items; output = f.output; lookups = map lookup_data f.lookups.items }

-- the columns are some that rules may have
pub record AreChosen (c : Choice) : Type 0 where
  pub inputs : AreInputs c.from.items
  pub output : IsOutput c.from.items (Some c.to)

-- its parts are those of these bytes: the mark in front, the header, the number of columns, and rows that can be read
pub record AreParts (asked : AskedData) (bytes : List ℕ) (r : Code) : Type 0 where
  pub marked : r.marked ≡ is_marked bytes
  pub header : r.header ≡ header_of asked.header (records_in bytes)
  pub width : r.width ≡ width (records_in bytes)
  pub readable : AreReadable asked.header r.choice.from.items (output_of asked.replace r.choice.to) bytes

-- how the scan of a file of these bytes ended: with its parts, or with the reason for which it is refused; a read that failed and
-- out of memory are free
abbrev pub IsScanned : AskedData → List ℕ → Result Code (Stop (List ℕ)) → Type 0
IsScanned asked bytes (Ok r) = (sheet_in_file asked bytes ≡ Passed (read_data asked bytes r)) × AreParts asked bytes r
IsScanned asked bytes (Err (stop.Unread name)) = ⊤
IsScanned asked bytes (Err (stop.Refused why)) = sheet_in_file asked bytes ≡ Refused why
IsScanned asked bytes (Err stop.NoMemory) = ⊤

-- how the check of its rows in the chosen columns ended: they can be read, and these texts are typed for them, or why not
abbrev pub AreRowsIn : AskedData → List ℕ → Choice → Result (List Example) (Stop (List ℕ)) → Type 0
AreRowsIn asked bytes c (Ok typed) = AreReadable asked.header c.from.items (output_of asked.replace c.to) bytes
    × (rows_in_file asked bytes (choice_data c) ≡ Passed (record {
      bytes = bytes;
      choice = choice_data c;
      sheet = sheet_in asked.header c.from.items (output_of asked.replace c.to) bytes;
      typed = typed;
      tables = [];
    }))
AreRowsIn asked bytes c (Err why) = Refuses (rows_in_file asked bytes (choice_data c)) why

-- the stop is not of a read
abbrev pub IsNoRead : Stop (List ℕ) → Type 0
IsNoRead (stop.Unread name) = ⊥
IsNoRead (stop.Refused why) = ⊤
IsNoRead stop.NoMemory = ⊤

-- a stop that is of a read is of the file of this name, and the flag holds then
abbrev pub IsUnreadFor : List ℕ → Type 0 → Stop (List ℕ) → Type 0
IsUnreadFor name Failed (stop.Unread other) = (string_bytes other ≡ name) × Failed
IsUnreadFor name Failed (stop.Refused why) = ⊤
IsUnreadFor name Failed stop.NoMemory = ⊤

-- the stop is for this file, which could not be read, or of memory
abbrev pub IsStopUnread : List ℕ → Stop (List ℕ) → Type 0
IsStopUnread name (stop.Unread other) = string_bytes other ≡ name
IsStopUnread name (stop.Refused why) = ⊥
IsStopUnread name stop.NoMemory = ⊤

-- the words opened this sheet
abbrev pub OpensFile : AskedData → Files → Code → Type 0
OpensFile asked files r = OfFile files asked.file (λ bytes. Opens asked files (read_data asked bytes r) × AreParts asked bytes r)

-- what the writing of a sheet on the desk depends on, over the bytes of its file
abbrev pub page_data : List ℕ → Desk → PageData
page_data bytes d = record {
  form = d.form;
  typed = d.typed;
  over = record { settings = d.settings; sheet = sheet_in d.header d.choice.from.items d.output bytes; tables = d.tables };
  rows = rows_in d.header bytes;
  head = d.head;
  saving = option_map frame_data d.saving;
}

-- columns count from 1, and are some that rules may have, whatever the file holds
pub record IsLaid (d : Desk) : Type 0 where
  pub settings : AreSettings d.settings
  pub inputs : AreInputs d.choice.from.items
  pub output : IsOutput d.choice.from.items d.output
  pub column : 1 ≤ d.form.column
  pub states : IfSome d.form.states (λ column. 1 ≤ column)

-- the sheet of these bytes can be read too
pub record IsReady (bytes : List ℕ) (d : Desk) : Type 0 where
  pub laid : IsLaid d
  pub readable : AreReadable d.header d.choice.from.items d.output bytes

-- what a dialogue leaves of a sheet of these bytes, where one is wanted: only the typed texts are others
abbrev pub IsAsked : List ℕ → Bool → Desk → Desk → Heard → Type 0
IsAsked bytes ask old new input = IsReady bytes new
    × (page_data bytes new ≡ with_typed (page_data bytes old) new.typed)
    × AreTyped ask (page_data bytes old).over old.typed input new.typed

-- what the writing of a long sheet depends on, with these tables, where this is to be saved
abbrev pub page_over : LongData → List TableData → Option FrameData → PageData
page_over s tables saving = record {
  form = s.form;
  typed = s.typed;
  over = ground_of s tables;
  rows = rows_of s;
  head = s.head;
  saving = saving;
}

-- all of the sheet was written by what its rows teach, which the block stands for
abbrev pub IsFilled : Option (List ℕ) → Option (List ℕ) → PageData → Filled → Type 0
IsFilled old new p f = (states : List RowState)
    × AreLearned p.typed p.over f.learned.examples f.learned.refused
    × AreCellStates p.typed p.over f.learned.examples (length p.rows) states
    × (f.summary.unsure ≡ list_any is_unsure states)
    × WritesRows p.form p.typed p.over f.learned.examples p.rows p.head (length p.rows) old new
    × StandsFor p.over f.block f.learned.examples

-- the words opened a sheet, which lies on the desk
abbrev pub OpensDesk : AskedData → Files → Desk → Type 0
OpensDesk asked files desk = (string_bytes desk.file ≡ asked.file) × (desk.ask ≡ asked.ask)
    × OfFile files asked.file (λ bytes. (read : SheetRead) × Opens asked files read × IsReady bytes desk × (page_data bytes desk ≡ page_of asked read))
