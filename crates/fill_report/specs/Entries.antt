-- What one entry writes, and which examples and history it leaves.
use Rattle.std.specs.Prelude.{◌≡◌, ◌⊎◌, ℕ, ◌≤◌, List, [], ◌∷◌, length, true, false, Option, None, Some, codes}
use Rattle.fill_text.specs.Data.{SheetData, nth}
use Rattle.fill_tree.specs.Tree.{Atoms}
use Rattle.fill_tree.specs.declared.user.Edit.{Edit}
use Rattle.fill_tree.specs.declared.user.Example.{Example}
use Rattle.fill_undo.specs.declared.done.Done.{Done}
use Rattle.fill_script.specs.declared.script.Entry.{Entry}
use Rattle.fill_space.specs.Best.{AreBestOn}
use Rattle.fill_space.specs.declared.ground.Ground.{Ground}
use Rattle.fill_session.specs.Answers.{switch_of}
use Rattle.fill_session.specs.Branches.{AreBranches, BranchData}
use Rattle.fill_session.specs.Outcome.{OutcomeIs, is_row, term}
use Rattle.fill_session.specs.Timeline.{RedoIs, Timeline, UndoIs, edited}
use Rattle.fill_session.specs.declared.error.EditError.{EditError}
use Rattle.fill_report.specs.Objections.{IsObjectRecord}
use Rattle.fill_output.specs.Fields.{Fields}
use Rattle.fill_report.specs.Records.{best_records, branch_records, move_record, no_branch_record, no_row_record, ok_record, refused_record, switch_record}
use Rattle.fill_report.specs.Rows.{AreRowRecords, AreRowStates, IsRowRecord, count_record}
use Rattle.fill_report.specs.Runs.{FirstOf, Written, nothing}
use Rattle.fill_report.specs.Tasks.{TaskData, ask, change, go, task_in}
use Rattle.fill_states.specs.declared.row_state.RowState.{RowState}
use Rattle.fill_report.specs.declared.tasks.Query.{Query}
use Rattle.fill_report.specs.declared.tasks.Query.TheVariants as query
use Rattle.fill_report.specs.declared.tasks.Way.{Way}
use Rattle.fill_report.specs.declared.tasks.Way.TheVariants as way

-- records of which none is a refusal, and which take no step
abbrev pub told : List Fields → Written
told records = record { records = records; refused = 0; term = 0 }

-- the one record of a refusal
abbrev pub refusal : Fields → Written
refusal fields = record { records = fields ∷ []; refused = 1; term = 0 }

-- the same with the steps that an edit of the examples may take
abbrev pub edit_told : SheetData → List Example → Edit → Written → Written
edit_told sheet examples e w = record { records = w.records; refused = w.refused; term = term sheet examples e }

-- these are the records of the branches
abbrev pub AreBranchRecords : Ground → List Example → List Fields → Type 0
AreBranchRecords g examples records = (branches : List BranchData) × AreBranches g examples branches × (records ≡ branch_records 1 branches)

-- this is the record of the conditional program
abbrev pub IsSwitchRecord : Ground → List Example → Fields → Type 0
IsSwitchRecord g examples fields = (branches : List BranchData) × AreBranches g examples branches × (fields ≡ switch_record (switch_of branches))

-- this is the record of how many rows have each state
abbrev pub IsCountRecord : Ground → List Example → Fields → Type 0
IsCountRecord g examples fields = (states : List RowState) × AreRowStates g examples (length g.sheet.rows) states × (fields ≡ count_record states)

-- an edit that is accepted changes the examples and can be undone then, and one that is refused leaves all as it is
abbrev pub EditWrites : Ground → Timeline → Edit → Written → Timeline → Type 0
EditWrites g t e w next =
    (OutcomeIs g t.examples e None × (w ≡ edit_told g.sheet t.examples e (told (ok_record e ∷ []))) × (next ≡ edited t e))
    ⊎ ((reason : EditError) × OutcomeIs g t.examples e (Some reason) × (w ≡ edit_told g.sheet t.examples e (refusal (refused_record e reason))) × (next ≡ t))

-- the next edit on the way is undone, or redone
abbrev pub GoesTo : Way → Timeline → Option Done → Timeline → Type 0
GoesTo way.Back t found next = UndoIs t found next
GoesTo way.Forth t found next = RedoIs t found next

-- whether there was none, as a count of refusals
abbrev pub missing : Option Done → ℕ
missing None = 1
missing (Some done) = 0

-- what going along the history writes: which edit it was, or the refusal where there is none
abbrev pub moved : Way → Option Done → Written
moved to found = record { records = move_record to found ∷ []; refused = missing found; term = 0 }

abbrev pub MoveWrites : Way → Timeline → Written → Timeline → Type 0
MoveWrites to t w next = (found : Option Done) × GoesTo to t found next × (w ≡ moved to found)

-- what a question of this word writes about a row: the record of this kind for a row of the sheet, and a refusal for any other
abbrev pub RowWrites : SheetData → List ℕ → ℕ → (Fields → Type 0) → Written → Type 0
RowWrites sheet word row Kind w =
    ((is_row sheet row ≡ true) × (fields : Fields) × Kind fields × (w ≡ told (fields ∷ [])))
    ⊎ ((is_row sheet row ≡ false) × (w ≡ refusal (no_row_record word row)))

-- the best programs of this branch, and a refusal where there is none
abbrev pub BestOf : Ground → ℕ → ℕ → Option BranchData → Written → Type 0
BestOf g branch k None w = w ≡ refusal (no_branch_record branch)
BestOf g branch k (Some b) w = (programs : List Atoms) × AreBestOn g b.examples k programs × (w ≡ told (best_records branch 1 programs))

-- the best programs of the branch of this number, from 1
abbrev pub BestWrites : Ground → List Example → ℕ → ℕ → Written → Type 0
BestWrites g examples branch k w = (branches : List BranchData) × AreBranches g examples branches × BestOf g branch k (nth branches branch) w

-- what a question writes
abbrev pub QueryWrites : Ground → List Example → Query → Written → Type 0
QueryWrites g examples query.Programs w = (records : List Fields) × AreBranchRecords g examples records × (w ≡ told records)
QueryWrites g examples query.Switch w = (fields : Fields) × IsSwitchRecord g examples fields × (w ≡ told (fields ∷ []))
QueryWrites g examples query.Fill w = (records : List Fields) × AreRowRecords g examples (length g.sheet.rows) records × (w ≡ told records)
QueryWrites g examples query.Count w = (fields : Fields) × IsCountRecord g examples fields × (w ≡ told (fields ∷ []))
QueryWrites g examples (query.Answer row) w = RowWrites g.sheet (codes "answer") row (IsRowRecord g examples row) w
QueryWrites g examples (query.Object row) w = RowWrites g.sheet (codes "object") row (IsObjectRecord g examples row) w
QueryWrites g examples (query.Best branch k) w = BestWrites g examples branch k w

-- the records of some first rows
abbrev pub FillBegins : Ground → List Example → Written → Type 0
FillBegins g examples w = (n : ℕ) × (records : List Fields) × (n ≤ length g.sheet.rows) × AreRowRecords g examples n records × (w ≡ told records)

-- where these examples are present, this is the beginning of what the question writes: records of first rows, or none or the first ones of
-- all its records
abbrev pub QueryBegins : Ground → List Example → Query → Written → Type 0
QueryBegins g examples query.Fill w = FillBegins g examples w
QueryBegins g examples q w = FirstOf (QueryWrites g examples q) nothing w

-- where these examples are present, with this history, the task writes this and leaves the next ones
abbrev pub TaskWrites : Ground → Timeline → TaskData → Written → Timeline → Type 0
TaskWrites g t (change e) w next = EditWrites g t e w next
TaskWrites g t (go to) w next = MoveWrites to t w next
TaskWrites g t (ask q) w next = QueryWrites g t.examples q w × (next ≡ t)

-- it begins to write so
abbrev pub TaskBegins : Ground → Timeline → TaskData → Written → Type 0
TaskBegins g t (change e) w = FirstOf (λ v. (next : Timeline) × EditWrites g t e v next) (edit_told g.sheet t.examples e nothing) w
TaskBegins g t (go to) w = FirstOf (λ v. (next : Timeline) × MoveWrites to t v next) nothing w
TaskBegins g t (ask q) w = QueryBegins g t.examples q w

-- the same of an entry
abbrev pub EntryWrites : Ground → Timeline → Entry → Written → Timeline → Type 0
EntryWrites g t e w next = TaskWrites g t (task_in e) w next

abbrev pub EntryBegins : Ground → Timeline → Entry → Written → Type 0
EntryBegins g t e w = TaskBegins g t (task_in e) w
