-- How a run ends on a sheet that was written, by what is told of it.
use Rattle.std.proofs.Common.{◌≡◌, ◌∙◌, ◌⊎◌, ◌≤◌, ◌&&◌, ◌||◌, ℕ, List, Bool, true, false, Option, Some, ap, sym, inl, inr, arith, length, refl, subst, suc, zero}
use Rattle.std.specs.List.{list_any}
use Rattle.fill_edge.specs.Outside.{Files}
use Rattle.fill_opening.specs.Stops.{Counts}
use Rattle.fill_opening.proofs.Binds.{told_one}
use Rattle.fill_states.specs.declared.row_state.RowState.{RowState}
use Rattle.std.specs.Io.KnownBytes.{Keeps}
use Rattle.fillcsv_rows.specs.Filled.{WritesRows, is_unsure}
use Rattle.fillcsv_rows.specs.Learned.{AreLearned, counts}
use Rattle.fillcsv_rows.specs.declared.learning.Refused.{Refused as RefusedText}
use Rattle.fillcsv_options.specs.Words.{AskedData}
use Rattle.fillcsv_run.specs.Asking.{AreTyped, Heard}
use Rattle.fillcsv_run.specs.Ends.{EndsFilled, Opens, WritesFilled, WritesFilledRows, form_of, head_of, is_wanting, rows_of}
use Rattle.fillcsv_run.specs.Fills.{EndsTold, Fills, is_left}
use Rattle.fillcsv_run.specs.Pages.{FillsPage, IsDone, page_of, with_typed}
use Rattle.fill_tree.specs.declared.user.Example.{Example}
use Rattle.fillcsv_tables.specs.Lines.{memory_line}
use Rattle.fillcsv_run.specs.Lines.{unsaved_line}
use Rattle.fillcsv_run.specs.Ground.{ground_of}
use Rattle.fillcsv_run.specs.Opening.{SheetRead}
use Rattle.fillcsv_run.specs.Saved.{IsSavedText, StoreAt, lacks_rule, saving_of}
use Rattle.fillcsv_run.specs.declared.told.Told.{Told}
use Rattle.fillcsv_run.proofs.Endings.{done_ends, memory_ends, opened_by, refusing_ends, unsaved_ends}

-- what is left to do by what is told is what is left to do
left_is : (asked : AskedData) (told : Told) (states : List RowState) (flag : Bool) → told.summary.unsure ≡ list_any is_unsure states → is_left asked told ≡ flag
    → flag ≡ (is_wanting asked.strict told.refused states || lacks_rule asked.save told.text)
left_is asked told states flag unsure is = sym is ∙ ap (λ u. (list_any counts told.refused || (asked.strict && u)) || lacks_rule asked.save told.text) unsure

-- neither of two is
no_second : (a b : Bool) → (a || b) ≡ false → b ≡ false
no_second true b e = cc
no_second false b e = e

few_cases : (r : ℕ) → r ≤ 1 → (r ≡ 0) ⊎ (r ≡ 1)
few_cases zero few = inl refl
few_cases (suc zero) few = inr refl
few_cases (suc (suc r)) few = absurd (omega (arith, few))

abbrev IsText : AskedData → SheetRead → List Example → Option (List ℕ) → Type 0
IsText asked read examples text = IsSavedText (saving_of asked read) (ground_of asked read) examples text

-- what is said in other words
pub told_said : (asked : AskedData) (told : Told) (r : ℕ) (held kept : StoreAt) (Said Says : List ℕ → Type 0) → ((line : List ℕ) → Said line → Says line)
    → EndsTold asked told r held kept Said → EndsTold asked told r held kept Says
told_said asked told r held kept Said Says says ends = record {
  done = ends.done;
  refusing = ends.refusing;
  statuses = ends.statuses;
  part = λ e. let p = ends.part e in (p.0, p.1, p.2, p.3, p.4, says (unsaved_line p.0) p.5);
  memory = λ e. says memory_line (ends.memory e);
  unsaved = ends.unsaved;
}

module _ (asked : AskedData) (files : Files) (input : Heard) (old new : Option (List ℕ)) (held kept : StoreAt) (told : Told) where
  -- what is told of a sheet that was written
  abbrev IsWhole : Type 0
  IsWhole = (read : SheetRead) × Opens asked files read × FillsPage asked.ask (page_of asked read) input old new told.refused told.summary.unsure told.text

  whole_writes : (flag : Bool) → is_left asked told ≡ flag → IsWhole → WritesFilled flag asked files input old new told.text
  whole_writes flag left w =
      let f : FillsPage asked.ask (page_of asked w.0) input old new told.refused told.summary.unsure told.text = w.2 in
      let d : IsDone old new (with_typed (page_of asked w.0) f.0) told.refused told.summary.unsure told.text = f.2 in
      (w.0, f.0, d.0, told.refused, d.1, w.1, f.1, d.2, d.3, d.5, d.6, left_is asked told d.1 flag d.4 left)

  whole_rows : IsWhole → Keeps old new ⊎ WritesFilledRows asked files input old new
  whole_rows w =
      let f : FillsPage asked.ask (page_of asked w.0) input old new told.refused told.summary.unsure told.text = w.2 in
      let d : IsDone old new (with_typed (page_of asked w.0) f.0) told.refused told.summary.unsure told.text = f.2 in
      inr (w.0, f.0, d.0, told.refused, length (rows_of asked w.0), w.1, f.1, d.2, omega arith, d.5)

  abbrev IsUnsaved : List ℕ → Type 0
  IsUnsaved text = (read : SheetRead) × (typed : List Example) × (examples : List Example) × (refused : List RefusedText)
      × Opens asked files read × AreTyped asked.ask (ground_of asked read) read.typed input typed
      × AreLearned typed (ground_of asked read) examples refused
      × WritesRows (form_of asked read) typed (ground_of asked read) examples (rows_of asked read) (head_of asked read) (length (rows_of asked read)) old new
      × IsSavedText (saving_of asked read) (ground_of asked read) examples (Some text)

  whole_unsaved : (text : List ℕ) → told.text ≡ Some text → IsWhole → IsUnsaved text
  whole_unsaved text is w =
      let f : FillsPage asked.ask (page_of asked w.0) input old new told.refused told.summary.unsure told.text = w.2 in
      let d : IsDone old new (with_typed (page_of asked w.0) f.0) told.refused told.summary.unsure told.text = f.2 in
      (w.0, f.0, d.0, told.refused, w.1, f.1, d.2, d.5, subst (IsText asked w.0 d.0) is d.6)

  pub told_ends : (before now : Counts) (Unwritten : Type 0) (Said : List ℕ → Type 0) (r : ℕ) → Fills asked files input old new told → EndsTold asked told r held kept Said → EndsFilled asked files input r before now old new held kept Unwritten Said
  told_ends before now Unwritten Said r fills ends = elim ends.statuses [
    | inl few ↦ elim (few_cases r few) [
      | inl naught ↦ let e = ends.done naught in done_ends asked files input before now old new held kept Unwritten Said r naught
          told.text e.1 (no_second _ _ e.0) (told_one files (λ other. IsWhole) (λ other. WritesFilled false asked files input old new told.text) (λ other w. whole_writes false e.0 w) fills)
      | inr one ↦ let e = ends.refusing one in refusing_ends asked files input before now old new held kept Unwritten Said r one
          told.text e.1 (told_one files (λ other. IsWhole) (λ other. WritesFilled true asked files input old new told.text) (λ other w. whole_writes true e.0 w) fills)
    ]
    | inr more ↦ elim more [
      | inl four ↦ let p = ends.part four in unsaved_ends asked files input before now old new held kept Unwritten Said r four (ends.unsaved (omega (arith, four)))
          (opened_by asked files IsWhole (λ w. (w.0, w.1)) fills)
          (p.0, p.1, p.2, p.4, p.5, told_one files (λ other. IsWhole) (λ other. IsUnsaved p.1) (λ other w. whole_unsaved p.1 p.3 w) fills)
      | inr six ↦ memory_ends asked files input before now old new held kept Unwritten Said r six (ends.unsaved (omega (arith, six)))
          (told_one files (λ other. IsWhole) (λ other. Keeps old new ⊎ WritesFilledRows asked files input old new) (λ other w. whole_rows w) fills) (ends.memory six)
    ]
  ]
