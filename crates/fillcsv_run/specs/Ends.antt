-- What a run of `fillcsv` leaves on its output, what it says, and its status.
use Rattle.std.specs.Prelude.{◌≡◌, ◌≢◌, ◌⊎◌, ℕ, ◌≤◌, List, [], ◌∷◌, ◌++◌, ◌||◌, ◌&&◌, length, max, Bool, true, false, Option, None, Some}
use Rattle.std.specs.List.{list_any}
use Rattle.std.specs.Io.KnownBytes.{Keeps}
use Rattle.fill_edge.specs.Outside.{Files, Rose, counted}
use Rattle.fill_sheet.specs.Sheet.{row_records}
use Rattle.fill_records.specs.Records.{records_of}
use Rattle.fill_tree.specs.declared.user.Example.{Example}
use Rattle.fill_opening.specs.Opened.{Told, IsPassed, Unread, Refused, Passed}
use Rattle.fill_opening.specs.Stops.{Counts, IsUnread, ReadFails}
use Rattle.fill_output.specs.Fields.{report_text}
use Rattle.fill_output.specs.Fields.{Fields}
use Rattle.fill_states.specs.declared.row_state.RowState.{RowState}
use Rattle.fillcsv_columns.specs.Columns.{width}
use Rattle.fillcsv_rows.specs.Filled.{AreCellStates, WritesPart, WritesRows, head_fields, is_unsure}
use Rattle.fillcsv_rows.specs.Learned.{AreLearned, counts}
use Rattle.fillcsv_rows.specs.declared.form.Form.{Form}
use Rattle.fillcsv_rows.specs.declared.learning.Refused.{Refused as RefusedText}
use Rattle.fillcsv_options.specs.Words.{AskedData, New, TargetData, There}
use Rattle.fillcsv_tables.specs.Lines.{memory_line}
use Rattle.fillcsv_run.specs.Lines.{output_line, unread_line, unsaved_line}
use Rattle.fillcsv_run.specs.Asking.{AreTyped, Heard}
use Rattle.fillcsv_run.specs.Ground.{ground_of}
use Rattle.fillcsv_run.specs.Opening.{SheetRead, header_of, mark_of, most_records, records_in, sheet_opens}
use Rattle.fillcsv_run.specs.Saved.{IsSavedText, StoreAt, lacks_rule, saving_of, stored}

-- the column of states, where one is asked for: after the last column of all records and the one that is filled (at most
-- 2^64 - 1, which no file reaches)
abbrev pub states_of : Bool → ℕ → List Fields → Option ℕ
states_of false column records = None
states_of true column records = Some (counted (max (width records) column) 1)

-- how answers are written
abbrev pub form_of : AskedData → SheetRead → Form
form_of asked read = record {
  column = read.choice.to;
  states = states_of asked.states read.choice.to (records_in read.bytes);
  only_sure = asked.only_sure;
}

-- a record, where it has fields
abbrev pub some_record : Fields → List Fields
some_record [] = []
some_record (field ∷ more) = (field ∷ more) ∷ []

-- the name of a new column
abbrev pub name_of : TargetData → Option (List ℕ)
name_of (There column) = None
name_of (New name) = Some name

-- the header with the names of the columns that are added, where there is a header
abbrev pub heads_of : Form → Option (List ℕ) → Option Fields → List Fields
heads_of form name None = []
heads_of form name (Some header) = some_record (head_fields form name header)

-- what stands before the records of rows: the byte order mark of the file, and the header
abbrev pub head_of : AskedData → SheetRead → List ℕ
head_of asked read = mark_of read.bytes ++ report_text (heads_of (form_of asked read) (name_of asked.to) (header_of asked.header (records_in read.bytes)))

-- the records of rows
abbrev pub rows_of : AskedData → SheetRead → List Fields
rows_of asked read = row_records most_records asked.header (records_of read.bytes)

-- the words open this sheet
abbrev pub Opens : AskedData → Files → SheetRead → Type 0
Opens asked files read = Told files (λ held. (sheet_opens asked held).outcome ≡ Passed read)

-- whether a sheet that was written leaves something to do: a given text is refused, not counting those after the
-- sixty-fourth example, or a cell is neither given nor sure where all are to be
abbrev pub is_wanting : Bool → List RefusedText → List RowState → Bool
is_wanting strict refused states = list_any counts refused || (strict && list_any is_unsure states)

-- the words opened a sheet, all of it was written with its column filled, and this is the text of its rule, where one is to be
-- saved; the flag tells whether something is left to do
abbrev pub WritesFilled : Bool → AskedData → Files → Heard → Option (List ℕ) → Option (List ℕ) → Option (List ℕ) → Type 0
WritesFilled flag asked files input old new text = (read : SheetRead) × (typed : List Example) × (examples : List Example) × (refused : List RefusedText) × (states : List RowState)
    × Opens asked files read × AreTyped asked.ask (ground_of asked read) read.typed input typed
    × AreLearned typed (ground_of asked read) examples refused
    × AreCellStates typed (ground_of asked read) examples (length (rows_of asked read)) states
    × WritesRows (form_of asked read) typed (ground_of asked read) examples (rows_of asked read) (head_of asked read) (length (rows_of asked read)) old new
    × IsSavedText (saving_of asked read) (ground_of asked read) examples text
    × (flag ≡ (is_wanting asked.strict refused states || lacks_rule asked.save text))

-- the words opened a sheet, and a part of what is to be written was written: a proper prefix of the head and the first rows
abbrev pub WritesFilledPart : AskedData → Files → Heard → Option (List ℕ) → Option (List ℕ) → Type 0
WritesFilledPart asked files input old new = (read : SheetRead) × (typed : List Example) × (examples : List Example) × (refused : List RefusedText) × (n : ℕ)
    × Opens asked files read × AreTyped asked.ask (ground_of asked read) read.typed input typed
    × AreLearned typed (ground_of asked read) examples refused × (n ≤ length (rows_of asked read))
    × WritesPart (form_of asked read) typed (ground_of asked read) examples (rows_of asked read) (head_of asked read) n old new

-- the words opened a sheet, and the head and the first rows were written whole
abbrev pub WritesFilledRows : AskedData → Files → Heard → Option (List ℕ) → Option (List ℕ) → Type 0
WritesFilledRows asked files input old new = (read : SheetRead) × (typed : List Example) × (examples : List Example) × (refused : List RefusedText) × (n : ℕ)
    × Opens asked files read × AreTyped asked.ask (ground_of asked read) read.typed input typed
    × AreLearned typed (ground_of asked read) examples refused × (n ≤ length (rows_of asked read))
    × WritesRows (form_of asked read) typed (ground_of asked read) examples (rows_of asked read) (head_of asked read) n old new

-- the words opened a sheet, all of it was written, and its rule could not be saved
abbrev pub FailsToSave : AskedData → Files → Heard → Option (List ℕ) → Option (List ℕ) → StoreAt → StoreAt → (List ℕ → Type 0) → Type 0
FailsToSave asked files input old new held kept Said = (path text : List ℕ)
    × (asked.save ≡ Some path) × Rose held.faults kept.faults × Said (unsaved_line path)
    × Told files (λ _. (read : SheetRead) × (typed : List Example) × (examples : List Example) × (refused : List RefusedText)
    × Opens asked files read × AreTyped asked.ask (ground_of asked read) read.typed input typed
    × AreLearned typed (ground_of asked read) examples refused
    × WritesRows (form_of asked read) typed (ground_of asked read) examples (rows_of asked read) (head_of asked read) (length (rows_of asked read)) old new
    × IsSavedText (saving_of asked read) (ground_of asked read) examples (Some text))

-- the words opened a sheet whose file could not be read again: what was written before is a part of what is to be written
abbrev pub FailsAgain : AskedData → Files → Heard → Counts → Counts → Option (List ℕ) → Option (List ℕ) → (List ℕ → Type 0) → Type 0
FailsAgain asked files input before now old new Said = Rose (before asked.file) (now asked.file)
    × Told files (λ _. Keeps old new ⊎ WritesFilledRows asked files input old new) × Said (unread_line asked.file)

-- how the filling of a sheet ends, by its status: what its output got, what its store holds, what it said, and why; a write of
-- the output failed where `Unwritten` holds
pub record EndsFilled (asked : AskedData) (files : Files) (input : Heard) (status : ℕ) (before now : Counts) (old new : Option (List ℕ)) (held kept : StoreAt) (Unwritten : Type 0) (Said : List ℕ → Type 0) : Type 0 where
  -- 0 and 1 only where every step of the opening passed, and the whole sheet was written; 1 where something is left to do
  -- (a file of which nothing is told may change between two passes over it, and then nothing is promised of what was written)
  pub done : status ≡ 0 → (text : Option (List ℕ)) × (kept.files ≡ stored asked.save text held.files) × (lacks_rule asked.save text ≡ false)
      × Told files (λ _. WritesFilled false asked files input old new text)
  pub refusing : status ≡ 1 → (text : Option (List ℕ)) × (kept.files ≡ stored asked.save text held.files)
      × Told files (λ _. WritesFilled true asked files input old new text)
  -- 2 is for wrong words alone
  pub worded : status ≢ 2
  pub unread : status ≡ 3 → (name : List ℕ) × (IsUnread (sheet_opens asked) files name ⊎ ReadFails (sheet_opens asked) files before now name) × Said (unread_line name)
  pub part : status ≡ 4 → (Unwritten × Told files (λ _. WritesFilledPart asked files input old new) × Said output_line)
      ⊎ FailsAgain asked files input before now old new Said
      ⊎ FailsToSave asked files input old new held kept Said
  pub refused : status ≡ 5 → (line : List ℕ) × Told files (λ held. (sheet_opens asked held).outcome ≡ Refused line) × Said line
  pub memory : status ≡ 6 → Told files (λ _. Keeps old new ⊎ WritesFilledRows asked files input old new) × Said memory_line
  pub quiet : (status ≡ 3) ⊎ (status ≡ 5) → Keeps old new
  -- nothing is saved but by a run that ends with 0 or 1
  pub unsaved : 2 ≤ status → kept.files ≡ held.files
  -- and the other way round, unless memory runs out
  pub always_unread : Told files (λ held. (name : List ℕ) → (sheet_opens asked held).outcome ≡ Unread name → (status ≡ 3) ⊎ (status ≡ 6))
  pub always_refused : Told files (λ held. (line : List ℕ) → (sheet_opens asked held).outcome ≡ Refused line → (status ≡ 5) ⊎ (status ≡ 6) ⊎ (status ≡ 3))
  pub always_ready : Told files (λ held. IsPassed (sheet_opens asked held).outcome → (status ≤ 1) ⊎ (status ≡ 6) ⊎ (status ≡ 3) ⊎ (status ≡ 4))

-- memory ran out before anything was done
abbrev pub OutBefore : ℕ → Option (List ℕ) → Option (List ℕ) → (List ℕ → Type 0) → Type 0
OutBefore status old new Said = (status ≡ 6) × (new ≡ old) × Said memory_line

-- how a run ends whose words are wrong
pub record EndsWrong (status : ℕ) (Said : List ℕ → Type 0) : Type 0 where
  pub statuses : (status ≡ 2) ⊎ (status ≡ 6)
  pub memory : status ≡ 6 → Said memory_line

-- how a run ends whose words ask for help
pub record EndsShown (status : ℕ) (Said : List ℕ → Type 0) : Type 0 where
  pub statuses : (status ≡ 0) ⊎ (status ≡ 4) ⊎ (status ≡ 6)
  pub part : status ≡ 4 → Said output_line
  pub memory : status ≡ 6 → Said memory_line
