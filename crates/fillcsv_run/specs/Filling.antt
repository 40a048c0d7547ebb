-- How the filling of a sheet on the desk ends.
use Rattle.std.specs.Prelude.{◌≡◌, ◌⊎◌, ℕ, List, Bool, Option, Result, Ok, Err, string_bytes}
use Rattle.fill_edge.specs.Outside.{Files}
use Rattle.fill_output.specs.declared.halt.Halt.{Halt}
use Rattle.fill_output.specs.declared.halt.Halt.TheVariants as halt
use Rattle.fillcsv_tables.specs.Lines.{memory_line}
use Rattle.fillcsv_run.specs.Asking.{Heard}
use Rattle.fillcsv_run.specs.Lines.{output_line, unread_line}
use Rattle.fillcsv_run.specs.Pages.{FillsPage, FillsPart, FillsRows, IsBegun, IsDone, IsPart, PageData}
use Rattle.fillcsv_run.specs.Read.{IsFilled, IsReady, OfFile, page_data}
use Rattle.fillcsv_run.specs.declared.desk.Desk.{Desk}
use Rattle.fillcsv_run.specs.declared.fill.Filled.{Filled}
use Rattle.fillcsv_run.specs.declared.fill.Unfilled.{Unfilled}
use Rattle.fillcsv_run.specs.declared.fill.Unfilled.TheVariants as unfilled
use Rattle.fillcsv_run.specs.declared.told.Told.{Told}

-- a fact of the page on the desk, where its file is told and can be read
abbrev pub OfPage : Files → Desk → (PageData → Type 0) → Type 0
OfPage files d P = OfFile files (string_bytes d.file) (λ bytes. IsReady bytes d → P (page_data bytes d))

-- how the writing of a page ends: with all of it, with a part of the head and the first rows, or, where memory ran out, with
-- nothing or the head and the first rows
abbrev pub EndsSheet : Option (List ℕ) → Option (List ℕ) → PageData → Result Filled Halt → Type 0
EndsSheet old new p (Ok filled) = IsFilled old new p filled
EndsSheet old new p (Err halt.Fault) = IsPart old new p
EndsSheet old new p (Err halt.NoMemory) = IsBegun old new p

-- the same, where it is told what was written
abbrev pub EndsPage : Option (List ℕ) → Option (List ℕ) → PageData → Result Told Halt → Type 0
EndsPage old new p (Ok told) = IsDone old new p told.refused told.summary.unsure told.text
EndsPage old new p (Err halt.Fault) = IsPart old new p
EndsPage old new p (Err halt.NoMemory) = IsBegun old new p

-- the same after a dialogue, where one is wanted
abbrev pub EndsDesk : Bool → PageData → Heard → Option (List ℕ) → Option (List ℕ) → Result Told Unfilled → Type 0
EndsDesk ask p input old new (Ok told) = FillsPage ask p input old new told.refused told.summary.unsure told.text
EndsDesk ask p input old new (Err unfilled.Unwritten) = FillsPart ask p input old new
EndsDesk ask p input old new (Err unfilled.Unread) = FillsRows ask p input old new
EndsDesk ask p input old new (Err unfilled.NoMemory) = FillsRows ask p input old new

-- why the filling of the sheet on the desk fails: a write failed, where `Unwritten` holds, or its file could not be read again,
-- where `Failed` holds, or memory ran out
abbrev pub FailsDesk : ℕ → Files → Desk → Type 0 → Type 0 → Heard → Option (List ℕ) → Option (List ℕ) → (List ℕ → Type 0) → Type 0
FailsDesk status files d Unwritten Failed input old new Said =
    ((status ≡ 4) × Unwritten × OfPage files d (λ p. FillsPart d.ask p input old new) × Said output_line)
    ⊎ ((status ≡ 4) × Failed × OfPage files d (λ p. FillsRows d.ask p input old new) × Said (unread_line (string_bytes d.file)))
    ⊎ ((status ≡ 6) × OfPage files d (λ p. FillsRows d.ask p input old new) × Said memory_line)
