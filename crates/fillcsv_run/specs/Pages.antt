-- A sheet that is ready to be filled, and what its filling leaves.
use Rattle.std.specs.Prelude.{◌≡◌, ◌⊎◌, ◌≤◌, ℕ, List, Bool, Option, length}
use Rattle.std.specs.List.{list_any}
use Rattle.std.specs.Io.KnownBytes.{Keeps}
use Rattle.fill_tree.specs.declared.user.Example.{Example}
use Rattle.fill_space.specs.declared.ground.Ground.{Ground}
use Rattle.fill_output.specs.Fields.{Fields}
use Rattle.fill_states.specs.declared.row_state.RowState.{RowState}
use Rattle.fillcsv_rows.specs.Filled.{AreCellStates, WritesPart, WritesRows, is_unsure}
use Rattle.fillcsv_rows.specs.Learned.{AreLearned}
use Rattle.fillcsv_rows.specs.declared.form.Form.{Form}
use Rattle.fillcsv_rows.specs.declared.learning.Refused.{Refused}
use Rattle.fillcsv_options.specs.Words.{AskedData}
use Rattle.fillcsv_run.specs.Asking.{AreTyped, Heard}
use Rattle.fillcsv_run.specs.Ends.{form_of, head_of, rows_of}
use Rattle.fillcsv_run.specs.Ground.{ground_of}
use Rattle.fillcsv_run.specs.Opening.{SheetRead}
use Rattle.fillcsv_run.specs.Saved.{FrameData, IsSavedText, saving_of}

-- all that the writing of a sheet depends on
pub record PageData : Type 0 where
  pub form : Form
  pub typed : List Example
  pub over : Ground
  pub rows : List Fields
  pub head : List ℕ
  pub saving : Option FrameData

-- that of a sheet which was read
abbrev pub page_of : AskedData → SheetRead → PageData
page_of asked read = record {
  form = form_of asked read;
  typed = read.typed;
  over = ground_of asked read;
  rows = rows_of asked read;
  head = head_of asked read;
  saving = saving_of asked read;
}

-- with these typed texts
abbrev pub with_typed : PageData → List Example → PageData
with_typed p typed = record p { typed = typed }

-- all of it was written, these texts are refused, the flag tells whether a cell is neither given nor sure, and this is to be saved
abbrev pub IsDone : Option (List ℕ) → Option (List ℕ) → PageData → List Refused → Bool → Option (List ℕ) → Type 0
IsDone old new p refused unsure text = (examples : List Example) × (states : List RowState)
    × AreLearned p.typed p.over examples refused
    × AreCellStates p.typed p.over examples (length p.rows) states
    × (unsure ≡ list_any is_unsure states)
    × WritesRows p.form p.typed p.over examples p.rows p.head (length p.rows) old new
    × IsSavedText p.saving p.over examples text

-- a proper prefix of the head and the first rows was written
abbrev pub IsPart : Option (List ℕ) → Option (List ℕ) → PageData → Type 0
IsPart old new p = (examples : List Example) × (refused : List Refused) × (n : ℕ) × AreLearned p.typed p.over examples refused
    × ((n ≤ length p.rows) × WritesPart p.form p.typed p.over examples p.rows p.head n old new)

-- nothing was written, or the head and the first rows
abbrev pub IsBegun : Option (List ℕ) → Option (List ℕ) → PageData → Type 0
IsBegun old new p = Keeps old new ⊎ ((examples : List Example) × (refused : List Refused) × (n : ℕ) × AreLearned p.typed p.over examples refused
    × ((n ≤ length p.rows) × WritesRows p.form p.typed p.over examples p.rows p.head n old new))

-- the same after a dialogue, where one is wanted
abbrev pub FillsPage : Bool → PageData → Heard → Option (List ℕ) → Option (List ℕ) → List Refused → Bool → Option (List ℕ) → Type 0
FillsPage ask p input old new refused unsure text = (typed : List Example) × AreTyped ask p.over p.typed input typed × IsDone old new (with_typed p typed) refused unsure text

abbrev pub FillsPart : Bool → PageData → Heard → Option (List ℕ) → Option (List ℕ) → Type 0
FillsPart ask p input old new = (typed : List Example) × AreTyped ask p.over p.typed input typed × IsPart old new (with_typed p typed)

abbrev pub FillsRows : Bool → PageData → Heard → Option (List ℕ) → Option (List ℕ) → Type 0
FillsRows ask p input old new = Keeps old new ⊎ ((typed : List Example) × AreTyped ask p.over p.typed input typed × IsBegun old new (with_typed p typed))
