-- How the filling of a sheet ends.
use Rattle.std.proofs.Common.{◌≡◌, ◌∙◌, ◌≤◌, ℕ, List, ◌⊎◌, inl, inr, Option, None, Some, false, true, arith, sym, subst}
use Rattle.std.specs.Prelude.{string_bytes}
use Rattle.std.specs.Io.KnownBytes.{Keeps}
use Rattle.fill_edge.specs.Outside.{Files}
use Rattle.fill_opening.specs.Opened.{Held, Told, Opened, IsPassed, Unread, Refused, Passed}
use Rattle.fill_opening.specs.Stops.{Counts, Stops, IsUnread, ReadFails}
use Rattle.fill_opening.specs.declared.stop.Stop.{Stop}
use Rattle.fill_opening.specs.declared.stop.Stop.TheVariants as stop
use Rattle.fill_opening.proofs.Binds.{told_one}
use Rattle.fillcsv_options.specs.Words.{AskedData}
use Rattle.fillcsv_tables.specs.Lines.{memory_line}
use Rattle.fillcsv_run.specs.Asking.{Heard}
use Rattle.fillcsv_run.specs.Ends.{EndsFilled, FailsAgain, FailsToSave, Opens, WritesFilled, WritesFilledPart, WritesFilledRows}
use Rattle.fillcsv_run.specs.Lines.{output_line, unread_line}
use Rattle.fillcsv_run.specs.Opening.{SheetRead, sheet_opens}
use Rattle.fillcsv_run.specs.Said.{Tells}
use Rattle.fillcsv_run.specs.Saved.{StoreAt, lacks_rule, stored}

pub told_all : (files : Files) (P : Held → Type 0) → ((held : Held) → P held) → Told files P
told_all None P f = tt
told_all (Some held) P f = f held

refused_unread : (line name : List ℕ) → (let x : Opened (List ℕ) SheetRead = Refused line in x ≡ Unread name) → ⊥
refused_unread line name e = cc

passed_unread : (x : SheetRead) (name : List ℕ) → (let o : Opened (List ℕ) SheetRead = Passed x in o ≡ Unread name) → ⊥
passed_unread x name e = cc

passed_refused : (x : SheetRead) (line : List ℕ) → Passed x ≡ Refused line → ⊥
passed_refused x line e = cc

-- where files are told, every step of the opening passed
abbrev pub IsOpened : AskedData → Files → Type 0
IsOpened asked files = Told files (λ held. (read : SheetRead) × ((sheet_opens asked held).outcome ≡ Passed read))

pub opened_by : (asked : AskedData) (files : Files) (W : Type 0) → (W → (read : SheetRead) × Opens asked files read) → Told files (λ held. W) → IsOpened asked files
opened_by asked None W f w = tt
opened_by asked (Some held) W f w = f w

module _ (asked : AskedData) (files : Files) (r : ℕ) where
  abbrev NotUnread : Held → Type 0
  NotUnread held = (name : List ℕ) → (sheet_opens asked held).outcome ≡ Unread name → (r ≡ 3) ⊎ (r ≡ 6)

  abbrev NotRefused : Held → Type 0
  NotRefused held = (line : List ℕ) → (sheet_opens asked held).outcome ≡ Refused line → (r ≡ 5) ⊎ (r ≡ 6) ⊎ (r ≡ 3)

  abbrev AlwaysReady : Held → Type 0
  AlwaysReady held = IsPassed (sheet_opens asked held).outcome → (r ≤ 1) ⊎ (r ≡ 6) ⊎ (r ≡ 3) ⊎ (r ≡ 4)

  abbrev Passes : Held → Type 0
  Passes held = (read : SheetRead) × ((sheet_opens asked held).outcome ≡ Passed read)

  -- the steps passed, so the file was neither missing nor refused
  module _ (opened : IsOpened asked files) where
    passed_no_unread : Told files NotUnread
    passed_no_unread = told_one files Passes NotUnread (λ held h name k. absurd (passed_unread h.0 name (sym h.1 ∙ k))) opened

    passed_no_refused : Told files NotRefused
    passed_no_refused = told_one files Passes NotRefused (λ held h line k. absurd (passed_refused h.0 line (sym h.1 ∙ k))) opened

-- nothing was written
pub none_written : (asked : AskedData) (files : Files) (input : Heard) (old new : Option (List ℕ)) → Keeps old new → Told files (λ other. Keeps old new ⊎ WritesFilledRows asked files input old new)
none_written asked files input old new keeps = told_all files (λ other. Keeps old new ⊎ WritesFilledRows asked files input old new) (λ other. inl keeps)

module _ (asked : AskedData) (files : Files) (input : Heard) (before now : Counts) (old new : Option (List ℕ)) (held kept : StoreAt) (Unwritten : Type 0) (Said : List ℕ → Type 0) (r : ℕ) where
  abbrev Ending : Type 0
  Ending = EndsFilled asked files input r before now old new held kept Unwritten Said

  -- the file is not there, or could not be read
  unread_ends : r ≡ 3 → kept.files ≡ held.files → Keeps old new → (name : List ℕ) → IsUnread (sheet_opens asked) files name ⊎ ReadFails (sheet_opens asked) files before now name → Said (unread_line name) → Ending
  unread_ends is same keeps name why said = record {
    done = λ e. absurd (omega arith);
    refusing = λ e. absurd (omega arith);
    worded = λ e. absurd (omega arith);
    unread = λ e. (name, why, said);
    part = λ e. absurd (omega arith);
    refused = λ e. absurd (omega arith);
    memory = λ e. absurd (omega arith);
    quiet = λ e. keeps;
    unsaved = λ e. same;
    always_unread = told_all files (NotUnread asked files r) (λ held other h. inl is);
    always_refused = told_all files (NotRefused asked files r) (λ held line h. inr (inr is));
    always_ready = told_all files (AlwaysReady asked files r) (λ held h. inr (inr (inl is)));
  }

  -- the file is refused
  refused_ends : r ≡ 5 → kept.files ≡ held.files → Keeps old new → (line : List ℕ) → Told files (λ held. (sheet_opens asked held).outcome ≡ Refused line) → Said line → Ending
  refused_ends is same keeps line why said = record {
    done = λ e. absurd (omega arith);
    refusing = λ e. absurd (omega arith);
    worded = λ e. absurd (omega arith);
    unread = λ e. absurd (omega arith);
    part = λ e. absurd (omega arith);
    refused = λ e. (line, why, said);
    memory = λ e. absurd (omega arith);
    quiet = λ e. keeps;
    unsaved = λ e. same;
    always_unread = told_one files (λ held. (sheet_opens asked held).outcome ≡ Refused line) (NotUnread asked files r) (λ held h name k. absurd (refused_unread line name (sym h ∙ k))) why;
    always_refused = told_all files (NotRefused asked files r) (λ held other h. inl is);
    always_ready = told_one files (λ held. (sheet_opens asked held).outcome ≡ Refused line) (AlwaysReady asked files r) (λ held h p. absurd (subst (λ (o : Opened (List ℕ) SheetRead). IsPassed o) h p)) why;
  }

  -- memory ran out
  pub memory_ends : r ≡ 6 → kept.files ≡ held.files → Told files (λ other. Keeps old new ⊎ WritesFilledRows asked files input old new) → Said memory_line → Ending
  memory_ends is same wrote said = record {
    done = λ e. absurd (omega arith);
    refusing = λ e. absurd (omega arith);
    worded = λ e. absurd (omega arith);
    unread = λ e. absurd (omega arith);
    part = λ e. absurd (omega arith);
    refused = λ e. absurd (omega arith);
    memory = λ e. (wrote, said);
    quiet = λ e. elim e [ inl three ↦ absurd (omega arith) | inr five ↦ absurd (omega arith) ];
    unsaved = λ e. same;
    always_unread = told_all files (NotUnread asked files r) (λ held other h. inr is);
    always_refused = told_all files (NotRefused asked files r) (λ held line h. inr (inl is));
    always_ready = told_all files (AlwaysReady asked files r) (λ held h. inr (inl is));
  }

  -- the steps stopped
  pub stopped_ends : (why : Stop (List ℕ)) (Written : List ℕ → Type 0) → ((line : List ℕ) → Written line → Said line) → Stops (sheet_opens asked) files before now why → kept.files ≡ held.files → Keeps old new
      → Tells why r Written → Ending
  stopped_ends (stop.Unread name) Written says stops same keeps (inl told) = unread_ends told.0 same keeps (string_bytes name) stops (says _ told.1)
  stopped_ends (stop.Unread name) Written says stops same keeps (inr told) = memory_ends told.0 same (none_written asked files input old new keeps) (says _ told.1)
  stopped_ends (stop.Refused line) Written says stops same keeps told = refused_ends told.0 same keeps line stops (says _ told.1)
  stopped_ends stop.NoMemory Written says stops same keeps told = memory_ends told.0 same (none_written asked files input old new keeps) (says _ told.1)

  -- all was written, and nothing is left to do
  pub done_ends : r ≡ 0 → (text : Option (List ℕ)) → kept.files ≡ stored asked.save text held.files → lacks_rule asked.save text ≡ false → Told files (λ other. WritesFilled false asked files input old new text) → Ending
  done_ends is text saves lacks wrote = record {
    done = λ e. (text, saves, lacks, wrote);
    refusing = λ e. absurd (omega arith);
    worded = λ e. absurd (omega arith);
    unread = λ e. absurd (omega arith);
    part = λ e. absurd (omega arith);
    refused = λ e. absurd (omega arith);
    memory = λ e. absurd (omega arith);
    quiet = λ e. elim e [ inl three ↦ absurd (omega arith) | inr five ↦ absurd (omega arith) ];
    unsaved = λ e. absurd (omega arith);
    always_unread = passed_no_unread asked files r (opened_by asked files (WritesFilled false asked files input old new text) (λ w. (w.0, w.5)) wrote);
    always_refused = passed_no_refused asked files r (opened_by asked files (WritesFilled false asked files input old new text) (λ w. (w.0, w.5)) wrote);
    always_ready = told_all files (AlwaysReady asked files r) (λ held h. inl (omega arith));
  }

  -- all was written, and something is left to do
  pub refusing_ends : r ≡ 1 → (text : Option (List ℕ)) → kept.files ≡ stored asked.save text held.files → Told files (λ other. WritesFilled true asked files input old new text) → Ending
  refusing_ends is text saves wrote = record {
    done = λ e. absurd (omega arith);
    refusing = λ e. (text, saves, wrote);
    worded = λ e. absurd (omega arith);
    unread = λ e. absurd (omega arith);
    part = λ e. absurd (omega arith);
    refused = λ e. absurd (omega arith);
    memory = λ e. absurd (omega arith);
    quiet = λ e. elim e [ inl three ↦ absurd (omega arith) | inr five ↦ absurd (omega arith) ];
    unsaved = λ e. absurd (omega arith);
    always_unread = passed_no_unread asked files r (opened_by asked files (WritesFilled true asked files input old new text) (λ w. (w.0, w.5)) wrote);
    always_refused = passed_no_refused asked files r (opened_by asked files (WritesFilled true asked files input old new text) (λ w. (w.0, w.5)) wrote);
    always_ready = told_all files (AlwaysReady asked files r) (λ held h. inl (omega arith));
  }

  -- a write failed, or a read of the file, after the steps passed
  write_ends : r ≡ 4 → kept.files ≡ held.files → IsOpened asked files
      → (Unwritten × Told files (λ other. WritesFilledPart asked files input old new) × Said output_line) ⊎ FailsAgain asked files input before now old new Said ⊎ FailsToSave asked files input old new held kept Said → Ending
  write_ends is same opened wrote = record {
    done = λ e. absurd (omega arith);
    refusing = λ e. absurd (omega arith);
    worded = λ e. absurd (omega arith);
    unread = λ e. absurd (omega arith);
    part = λ e. wrote;
    refused = λ e. absurd (omega arith);
    memory = λ e. absurd (omega arith);
    quiet = λ e. elim e [ inl three ↦ absurd (omega arith) | inr five ↦ absurd (omega arith) ];
    unsaved = λ e. same;
    always_unread = passed_no_unread asked files r opened;
    always_refused = passed_no_refused asked files r opened;
    always_ready = told_all files (AlwaysReady asked files r) (λ held h. inr (inr (inr is)));
  }

  -- a part of the sheet was written
  pub part_ends : r ≡ 4 → kept.files ≡ held.files → IsOpened asked files → Unwritten → Told files (λ other. WritesFilledPart asked files input old new) → Said output_line → Ending
  part_ends is same opened why wrote said = write_ends is same opened (inl (why, wrote, said))

  -- the file could not be read again
  pub again_ends : r ≡ 4 → kept.files ≡ held.files → IsOpened asked files → FailsAgain asked files input before now old new Said → Ending
  again_ends is same opened again = write_ends is same opened (inr (inl again))

  -- the rule could not be saved
  pub unsaved_ends : r ≡ 4 → kept.files ≡ held.files → IsOpened asked files → FailsToSave asked files input old new held kept Said → Ending
  unsaved_ends is same opened wrote = write_ends is same opened (inr (inr wrote))

-- what holds of a run where a write failed for one reason holds where it failed for a wider one
pub ends_wider : (asked : AskedData) (files : Files) (input : Heard) (before now : Counts) (old new : Option (List ℕ)) (held kept : StoreAt) (A B : Type 0) (Said : List ℕ → Type 0) (r : ℕ) → (A → B)
    → EndsFilled asked files input r before now old new held kept A Said → EndsFilled asked files input r before now old new held kept B Said
ends_wider asked files input before now old new held kept A B Said r wider ends = record {
  done = ends.done;
  refusing = ends.refusing;
  worded = ends.worded;
  unread = ends.unread;
  part = λ e. elim (ends.part e) [ inl wrote ↦ inl (wider wrote.0, wrote.1, wrote.2) | inr more ↦ inr more ];
  refused = ends.refused;
  memory = ends.memory;
  quiet = ends.quiet;
  unsaved = ends.unsaved;
  always_unread = ends.always_unread;
  always_refused = ends.always_refused;
  always_ready = ends.always_ready;
}
