-- What the writing of one record, and of records in order, leaves.
use Rattle.std.specs.Prelude.{◌≡◌, ℕ, List, take, Bool, false, Option, Result, Ok, Err}
use Rattle.std.specs.Io.KnownBytes.{Appends}
use Rattle.fill_edge.specs.Outside.{AppendsPart}
use Rattle.fill_sheet.specs.Report.{record_text}
use Rattle.fill_text.specs.declared.error.NoMemory.{NoMemory}
use Rattle.fill_output.specs.Fields.{report_text}
use Rattle.fill_output.specs.Fields.{Fields}
use Rattle.fill_output.specs.declared.halt.Halt.{Halt}
use Rattle.fill_output.specs.declared.halt.Halt.TheVariants as halt

-- what the writing of one record leaves, if it was made
abbrev pub LeavesOne : Result Fields NoMemory → Bool → Result Bool Halt → Option (List ℕ) → Option (List ℕ) → Type 0
LeavesOne (Ok fields) refused (Ok flag) old new = Appends old new (record_text fields) × (flag ≡ refused)
LeavesOne (Ok fields) refused (Err halt.Fault) old new = AppendsPart old new (record_text fields)
LeavesOne (Ok fields) refused (Err halt.NoMemory) old new = new ≡ old
LeavesOne (Err e) refused (Ok flag) old new = ⊥
LeavesOne (Err e) refused (Err halt.Fault) old new = ⊥
LeavesOne (Err e) refused (Err halt.NoMemory) old new = new ≡ old

-- what the writing of these records leaves, of which none is a refusal: all of them, or the first of them
abbrev pub LeavesFirst : List Fields → Result Bool Halt → Option (List ℕ) → Option (List ℕ) → Type 0
LeavesFirst records (Ok flag) old new = Appends old new (report_text records) × (flag ≡ false)
LeavesFirst records (Err halt.Fault) old new = (n : ℕ) × AppendsPart old new (report_text (take n records))
LeavesFirst records (Err halt.NoMemory) old new = (n : ℕ) × Appends old new (report_text (take n records))
