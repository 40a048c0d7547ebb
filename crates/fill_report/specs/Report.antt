-- The report of a session: the records of its entries, one after the other.
use Rattle.std.specs.Prelude.{◌≡◌, ◌⊎◌, ℕ, List, [], ◌∷◌, length, Bool, Option, None, Some}
use Rattle.std.specs.List.{flat_map, range_with_len}
use Rattle.fill_text.specs.Data.{SheetData}
use Rattle.fill_sheet.specs.Sheet.{given_at}
use Rattle.fill_tree.specs.declared.user.Edit.TheVariants.{Add}
use Rattle.fill_undo.specs.Moves.{no_moves}
use Rattle.fill_script.specs.declared.script.Entry.{Entry}
use Rattle.fill_script.specs.declared.script.Entry.TheVariants as entry
use Rattle.fill_space.specs.declared.ground.Ground.{Ground}
use Rattle.fill_session.specs.Timeline.{Timeline, forgotten}
use Rattle.fill_report.specs.Entries.{EntryWrites, EntryBegins}
use Rattle.fill_report.specs.Output.{Writes, WritesPart, WritesRecords}
use Rattle.fill_report.specs.Runs.{Begins, Runs, Written, followed}

-- the addition of a row's given text, where there is one
abbrev pub addition : ℕ → Option (List ℕ) → List Entry
addition row None = []
addition row (Some text) = entry.Edit (Add row text) ∷ []

abbrev pub addition_at : SheetData → ℕ → List Entry
addition_at sheet row = addition row (given_at sheet row)

-- the additions of the given texts of the first n rows, in order
abbrev pub additions : SheetData → ℕ → List Entry
additions sheet n = flat_map (addition_at sheet) (range_with_len 1 n)

-- no example, and no history
abbrev pub start : Timeline
start = record { examples = []; moves = no_moves }

-- over the ground the entries write this from the first examples and history on, and leave the last ones
abbrev pub EntriesWrite : Ground → Timeline → List Entry → Written → Timeline → Type 0
EntriesWrite g first entries w last = Runs (EntryWrites g) first entries w last

-- over the ground the entries begin to write so from the first examples and history on
abbrev pub EntriesBegin : Ground → Timeline → List Entry → Written → Type 0
EntriesBegin g first entries w = Begins (EntryWrites g) (EntryBegins g) first entries w

-- this is the report of a script's entries: the additions of all given texts, which cannot be undone, and then the entries
unfoldable pub IsReport : Ground → List Entry → Written → Type 0
IsReport g entries w = (first : Written) × (mid : Timeline) × (later : Written) × (last : Timeline)
    × EntriesWrite g start (additions g.sheet (length g.sheet.rows)) first mid × EntriesWrite g (forgotten mid) entries later last
    × (w ≡ followed first later)

-- this is a beginning of the report: one of the additions, or all of them and a beginning of the entries
unfoldable pub BeginsReport : Ground → List Entry → Written → Type 0
BeginsReport g entries w = EntriesBegin g start (additions g.sheet (length g.sheet.rows)) w
    ⊎ ((first : Written) × (mid : Timeline) × (later : Written)
    × EntriesWrite g start (additions g.sheet (length g.sheet.rows)) first mid × EntriesBegin g (forgotten mid) entries later
    × (w ≡ followed first later))

-- the whole report was written, and the flag tells whether some record of it is a refusal
abbrev pub Reports : Ground → List Entry → Bool → Option (List ℕ) → Option (List ℕ) → ℕ → ℕ → Type 0
Reports g entries refused old new before now = Writes (IsReport g entries) refused old new before now

-- a part of the report was written that is not all of it: a proper prefix of its first records
abbrev pub ReportsPart : Ground → List Entry → Option (List ℕ) → Option (List ℕ) → ℕ → ℕ → Type 0
ReportsPart g entries old new before now = WritesPart (BeginsReport g entries) old new before now

-- the first whole records of the report were written
abbrev pub ReportsRecords : Ground → List Entry → Option (List ℕ) → Option (List ℕ) → ℕ → ℕ → Type 0
ReportsRecords g entries old new before now = WritesRecords (BeginsReport g entries) old new before now
