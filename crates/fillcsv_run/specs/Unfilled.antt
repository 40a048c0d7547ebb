-- Why a sheet was not filled, and its status and its line.
use Rattle.std.specs.Prelude.{◌≡◌, ◌⊎◌, ℕ, List, Bool, true, false}
use Rattle.fill_output.specs.declared.halt.Halt.{Halt}
use Rattle.fill_output.specs.declared.halt.Halt.TheVariants as halt
use Rattle.fillcsv_tables.specs.Lines.{memory_line}
use Rattle.fillcsv_run.specs.Lines.{output_line, unread_line}
use Rattle.fillcsv_run.specs.declared.fill.Unfilled.{Unfilled}
use Rattle.fillcsv_run.specs.declared.fill.Unfilled.TheVariants as unfilled

-- why a sheet was not filled whose writing halted so; the flag tells whether a read of its file failed
abbrev pub unfilled_by : Halt → Bool → Unfilled
unfilled_by halt.Fault failed = unfilled.Unwritten
unfilled_by halt.NoMemory true = unfilled.Unread
unfilled_by halt.NoMemory false = unfilled.NoMemory

-- there may be no memory for the line of a file that could not be read again
abbrev pub TellsUnfilled : List ℕ → Unfilled → ℕ → (List ℕ → Type 0) → Type 0
TellsUnfilled file unfilled.Unwritten status Said = (status ≡ 4) × Said output_line
TellsUnfilled file unfilled.Unread status Said = ((status ≡ 4) × Said (unread_line file)) ⊎ ((status ≡ 6) × Said memory_line)
TellsUnfilled file unfilled.NoMemory status Said = (status ≡ 6) × Said memory_line
