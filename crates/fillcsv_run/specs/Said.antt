-- The status and the line of a stop, and what is said.
use Rattle.std.specs.Prelude.{◌≡◌, ◌⊎◌, ℕ, List, Option, string_bytes}
use Rattle.std.specs.Io.KnownBytes.{Appends}
use Rattle.fill_edge.specs.Outside.{Rose, AppendsPart}
use Rattle.fill_opening.specs.declared.stop.Stop.{Stop}
use Rattle.fill_opening.specs.declared.stop.Stop.TheVariants as stop
use Rattle.fillcsv_tables.specs.Lines.{memory_line}
use Rattle.fillcsv_run.specs.Lines.{unread_line, unsaved_line}

-- the status that tells of a stop, and its line; there may be no memory for the line of a file that could not be read
abbrev pub Tells : Stop (List ℕ) → ℕ → (List ℕ → Type 0) → Type 0
Tells (stop.Unread name) status Said = ((status ≡ 3) × Said (unread_line (string_bytes name))) ⊎ ((status ≡ 6) × Said memory_line)
Tells (stop.Refused line) status Said = (status ≡ 5) × Said line
Tells stop.NoMemory status Said = (status ≡ 6) × Said memory_line

-- the line was written, or a proper prefix of it where a write failed
abbrev pub Says : Option (List ℕ) → Option (List ℕ) → ℕ → ℕ → List ℕ → Type 0
Says old new before now line = Appends old new line ⊎ (Rose before now × AppendsPart old new line)

-- the status of a rule that could not be saved under a path, and the line that says it; there may be no memory for that
abbrev pub IsUnsaved : List ℕ → ℕ → (List ℕ → Type 0) → Type 0
IsUnsaved path status Said = ((status ≡ 4) × Said (unsaved_line path)) ⊎ ((status ≡ 6) × Said memory_line)
