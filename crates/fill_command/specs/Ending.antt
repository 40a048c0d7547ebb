-- How a run ends: its status, and what it says.
use Rattle.std.specs.Prelude.{◌≡◌, ◌⊎◌, ℕ, Bool, false, true, List, Option, None, Some, Result, Ok, Err, codes, string_bytes}
use Rattle.std.specs.Io.KnownBytes.{Appends, Keeps}
use Rattle.std.proofs.Common.{Global}
use Rattle.std.specs.declared.string.String.{String}
use Rattle.fill_edge.specs.Outside.{AppendsPart, Rose}
use Rattle.fill_open.specs.Lines.{memory_line}
use Rattle.fill_open.specs.Refusal.{RefusalData}
use Rattle.fill_open.specs.Lines.{stop_line}
use Rattle.fill_opening.specs.declared.stop.Stop.{Stop}
use Rattle.fill_opening.specs.declared.stop.Stop.TheVariants as stop
use Rattle.fill_output.specs.declared.halt.Halt.{Halt}
use Rattle.fill_output.specs.declared.halt.Halt.TheVariants as halt
use Rattle.fill_command.specs.declared.ending.Ending.{Ending}
use Rattle.fill_command.specs.declared.ending.Ending.TheVariants as ending

abbrev pub status_of : Ending → ℕ
status_of ending.Done = 0
status_of ending.Refusing = 1
status_of ending.NoCommand = 2
status_of (ending.Unread line) = 3
status_of ending.Unwritten = 4
status_of (ending.Refused line) = 5
status_of ending.NoMemory = 6

abbrev pub usage_line : List ℕ
usage_line = codes "usage: flashfill replay SESSION or flashfill made N or flashfill apply SESSION PROGRAM SHEET or flashfill keys FILE\n"

abbrev pub output_line : List ℕ
output_line = codes "flashfill: output cannot be written\n"

-- its line, where it has one
abbrev pub line_of : Ending → Option (List ℕ)
line_of ending.Done = None
line_of ending.Refusing = None
line_of ending.NoCommand = Some usage_line
line_of (ending.Unread line) = Some (string_bytes line)
line_of ending.Unwritten = Some output_line
line_of (ending.Refused line) = Some (string_bytes line)
line_of ending.NoMemory = Some memory_line

-- nothing was written where there is no line, and else the line, or a proper prefix of it where a write failed
abbrev pub Says : Option (List ℕ) → Option (List ℕ) → ℕ → ℕ → Option (List ℕ) → Type 0
Says old new before now None = Keeps old new
Says old new before now (Some line) = Appends old new line ⊎ (Rose before now × AppendsPart old new line)

-- the ending of a stop with this line
abbrev pub stop_ending : Stop RefusalData → String Global → Ending
stop_ending (stop.Unread name) line = ending.Unread line
stop_ending (stop.Refused why) line = ending.Refused line
stop_ending stop.NoMemory line = ending.NoMemory

-- the ending is that of a stop, or out of memory for its line
abbrev pub IsOfStop : Stop RefusalData → Ending → Type 0
IsOfStop why e = (e ≡ ending.NoMemory) ⊎ ((line : String Global) × (string_bytes line ≡ stop_line why) × (e ≡ stop_ending why line))

-- the ending of a writing that halted
abbrev pub halt_ending : Halt → Ending
halt_ending halt.Fault = ending.Unwritten
halt_ending halt.NoMemory = ending.NoMemory

-- the ending of a report, by whether some record of it is a refusal
abbrev pub report_ending : Result Bool Halt → Ending
report_ending (Ok false) = ending.Done
report_ending (Ok true) = ending.Refusing
report_ending (Err h) = halt_ending h
