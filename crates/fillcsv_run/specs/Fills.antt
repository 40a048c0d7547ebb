-- What the writing of a sheet leaves.
use Rattle.std.specs.Prelude.{◌≡◌, ◌⊎◌, ◌≤◌, ◌||◌, ◌&&◌, ℕ, List, Bool, true, false, Option, Some}
use Rattle.std.specs.List.{list_any}
use Rattle.fill_edge.specs.Outside.{Files, Rose}
use Rattle.fill_opening.specs.Opened.{Told as IsToldOf}
use Rattle.fillcsv_rows.specs.Learned.{counts}
use Rattle.fillcsv_options.specs.Words.{AskedData}
use Rattle.fillcsv_tables.specs.Lines.{memory_line}
use Rattle.fillcsv_run.specs.Asking.{Heard}
use Rattle.fillcsv_run.specs.Lines.{unsaved_line}
use Rattle.fillcsv_run.specs.Ends.{Opens}
use Rattle.fillcsv_run.specs.Opening.{SheetRead}
use Rattle.fillcsv_run.specs.Pages.{FillsPage, page_of}
use Rattle.fillcsv_run.specs.Saved.{StoreAt, lacks_rule, stored}
use Rattle.fillcsv_run.specs.declared.told.Told.{Told}

-- the words opened a sheet, all of it was written with its column filled, and this is told of it
abbrev pub Fills : AskedData → Files → Heard → Option (List ℕ) → Option (List ℕ) → Told → Type 0
Fills asked files input old new told = IsToldOf files (λ _. (read : SheetRead) × Opens asked files read
    × FillsPage asked.ask (page_of asked read) input old new told.refused told.summary.unsure told.text)

-- whether something is left to do on a sheet of which this is told
abbrev pub is_left : AskedData → Told → Bool
is_left asked told = (list_any counts told.refused || (asked.strict && told.summary.unsure)) || lacks_rule asked.save told.text

-- how a run ends on a sheet that was written: the rule is saved where that is asked for, or it could not be
pub record EndsTold (asked : AskedData) (told : Told) (status : ℕ) (held kept : StoreAt) (Said : List ℕ → Type 0) : Type 0 where
  pub done : status ≡ 0 → (is_left asked told ≡ false) × (kept.files ≡ stored asked.save told.text held.files)
  pub refusing : status ≡ 1 → (is_left asked told ≡ true) × (kept.files ≡ stored asked.save told.text held.files)
  pub statuses : (status ≤ 1) ⊎ (status ≡ 4) ⊎ (status ≡ 6)
  pub part : status ≡ 4 → (path text : List ℕ) × (asked.save ≡ Some path) × (told.text ≡ Some text) × Rose held.faults kept.faults × Said (unsaved_line path)
  pub memory : status ≡ 6 → Said memory_line
  pub unsaved : 2 ≤ status → kept.files ≡ held.files
