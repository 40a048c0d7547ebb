-- What is written of some rows of a long sheet.
use Rattle.std.specs.Prelude.{◌≡◌, ◌||◌, ◌≤◌, ℕ, List, All, Bool, false, Option, None, Some, Result, Ok, Err, ⊤, length, take}
use Rattle.std.specs.Io.KnownBytes.{Appends}
use Rattle.std.specs.List.{AllZip, list_any}
use Rattle.fill_text.specs.Data.{nth}
use Rattle.fill_edge.specs.Outside.{AppendsPart}
use Rattle.fill_output.specs.Fields.{report_text}
use Rattle.fill_output.specs.Fields.{Fields}
use Rattle.fill_states.specs.declared.row_state.RowState.{RowState}
use Rattle.fill_output.specs.declared.halt.Halt.{Halt}
use Rattle.fill_output.specs.declared.halt.Halt.TheVariants as halt
use Rattle.fill_sheet.specs.Report.{record_text}
use Rattle.fillcsv_rows.specs.Filled.{IsCellState, IsFilledRow, TellsUnsure, WritesPart, WritesRows, is_unsure}
use Rattle.fillcsv_rows.specs.Learned.{given_for}
use Rattle.fillcsv_blocks.specs.Blocks.{BlockData, StandsFor}
use Rattle.fillcsv_blocks.specs.declared.numbered.Numbered.{Numbered}
use Rattle.fillcsv_filling.specs.Long.{AreRows, IsLong, LongData, ground_of, rows_of, sheet_over}
use Rattle.fillcsv_filling.specs.Taught.{IsTaught, examples_of, ground_with, tables_of}
use Rattle.fillcsv_filling.specs.declared.learning.Learned.{Learned}
use Rattle.fillcsv_filling.specs.declared.sheet.Basis.{Basis}
use Rattle.fillcsv_filling.specs.declared.writing.Written.{Written}

-- the row has this number and this record in the sheet
abbrev pub IsRow : LongData → Numbered → Type 0
IsRow s it = nth (rows_of s) it.number ≡ Some it.fields

-- a block stands for the sheet, and these rows are rows of it
pub record Stands (s : LongData) (block : BlockData) (these : List Numbered) : Type 0 where
  pub long : IsLong s
  pub stands : StandsFor (ground_with s block) block (examples_of block)
  pub rows : All (IsRow s) these

-- no text is typed for the row, and its cell has none
abbrev pub GivesNone : LongData → Numbered → Type 0
GivesNone s it = given_for s.typed (sheet_over s.inputs s.output (rows_of s)) it.number ≡ None

-- the state of a row's cell, by what a block has learned
abbrev pub IsStateIn : LongData → BlockData → ℕ → RowState → Type 0
IsStateIn s block row state = IsCellState s.typed (ground_with s block) (examples_of block) row state

-- the record of a row, by what a block has learned
abbrev pub IsMadeIn : LongData → BlockData → ℕ → Fields → Type 0
IsMadeIn s block row made = IsFilledRow s.form s.typed (ground_with s block) (examples_of block) (rows_of s) row made

-- the flag tells now whether it told so before or one of the cells of these rows is neither given nor sure
abbrev pub TellsOf : LongData → BlockData → List ℕ → Bool → Bool → Type 0
TellsOf s block rows before now = (states : List RowState) × AllZip (IsStateIn s block) rows states × (now ≡ (before || list_any is_unsure states))

-- the records of these rows were written, or a proper prefix of them
abbrev pub WritesOf : LongData → BlockData → List ℕ → Option (List ℕ) → Option (List ℕ) → Type 0
WritesOf s block rows old new = (made : List Fields) × AllZip (IsMadeIn s block) rows made × Appends old new (report_text made)

abbrev pub WritesPartOf : LongData → BlockData → List ℕ → Option (List ℕ) → Option (List ℕ) → Type 0
WritesPartOf s block rows old new = (made : List Fields) × AllZip (IsMadeIn s block) rows made × AppendsPart old new (report_text made)

-- how the writing of a row ends: with its record, with a part of it, or, where memory ran out, with nothing of it
abbrev pub WritesRow : LongData → BlockData → ℕ → Option (List ℕ) → Option (List ℕ) → Result RowState Halt → Type 0
WritesRow s block row old new (Ok state) = IsStateIn s block row state × (made : Fields) × IsMadeIn s block row made × Appends old new (record_text made)
WritesRow s block row old new (Err halt.Fault) = (made : Fields) × IsMadeIn s block row made × AppendsPart old new (record_text made)
WritesRow s block row old new (Err halt.NoMemory) = new ≡ old

-- how the writing of some rows ends, where the flag told before and tells now whether a cell is neither given nor sure: with all
-- of them, with a part of the first ones, or, where memory ran out, with the first ones
abbrev pub WritesBlock : LongData → BlockData → List ℕ → Bool → Bool → Option (List ℕ) → Option (List ℕ) → Result ⊤ Halt → Type 0
WritesBlock s block rows before now old new (Ok done) = TellsOf s block rows before now × WritesOf s block rows old new
WritesBlock s block rows before now old new (Err halt.Fault) = (n : ℕ) × (n ≤ length rows) × WritesPartOf s block (take n rows) old new
WritesBlock s block rows before now old new (Err halt.NoMemory) = (n : ℕ) × (n ≤ length rows) × WritesOf s block (take n rows) old new

-- all rows were written by what was learned over the tables of this basis, what is told of them is of them, and what was learned is
-- there for the next block
pub record IsWritten (s : LongData) (learned : Learned) (b : Basis) (head : List ℕ) (old new : Option (List ℕ)) (written : Written) (after : Basis) : Type 0 where
  pub states : TellsUnsure s.typed (ground_of s (tables_of b)) learned.examples (length (rows_of s)) false written.summary.unsure
  pub shown : AreRows s written.shown.items
  pub taught : IsTaught s learned after
  pub tables : tables_of after ≡ tables_of b
  pub whole : WritesRows s.form s.typed (ground_of s (tables_of b)) learned.examples (rows_of s) head (length (rows_of s)) old new

-- how the writing of a sheet ends: with all of it, with a part of the head and the first rows, or, where memory ran out, with the
-- head and the first rows
abbrev pub WritesSheet : LongData → Learned → Basis → List ℕ → Option (List ℕ) → Option (List ℕ) → Result (Written × Basis) Halt → Type 0
WritesSheet s learned b head old new (Ok made) = IsWritten s learned b head old new made.0 made.1
WritesSheet s learned b head old new (Err halt.Fault) = (n : ℕ) × (n ≤ length (rows_of s)) × WritesPart s.form s.typed (ground_of s (tables_of b)) learned.examples (rows_of s) head n old new
WritesSheet s learned b head old new (Err halt.NoMemory) = (n : ℕ) × (n ≤ length (rows_of s)) × WritesRows s.form s.typed (ground_of s (tables_of b)) learned.examples (rows_of s) head n old new
