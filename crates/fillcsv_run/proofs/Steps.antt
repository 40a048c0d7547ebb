-- The steps of opening a sheet and its tables.
use Rattle.std.proofs.Common.{◌≡◌, ◌∙◌, ℕ, List, [], None, Some}
use Rattle.fill_text.specs.Data.{TableData}
use Rattle.fill_edge.specs.Outside.{Files, NoneFell}
use Rattle.fill_opening.specs.Opened.{Held, Told, Opened, Passed, at_once}
use Rattle.fill_opening.specs.Stops.{Counts, Refuses, Stops}
use Rattle.fill_opening.specs.declared.stop.Stop.{Stop}
use Rattle.fill_opening.specs.declared.stop.Stop.TheVariants as stop
use Rattle.fill_opening.proofs.Binds.{Continues, all_go_on, continues_both, goes_on, stops_first, stops_later, told_both}
use Rattle.fillcsv_tables.specs.Tables.{lookups_open}
use Rattle.fillcsv_options.specs.Words.{AskedData}
use Rattle.fillcsv_run.specs.Opening.{SheetRead, from_bytes, from_sheet, sheet_file_opens, sheet_in, sheet_opens, with_tables}

pub told_all : (files : Files) (P : Held → Type 0) → ((held : Held) → P held) → Told files P
told_all None P f = tt
told_all (Some held) P f = f held

-- what a check of bytes refuses stops a step that is that check
refuses_stops : {R A : Type 0} (o : Opened R A) (files : Files) (before now : Counts) (why : Stop R) → Refuses o why → Stops (λ held. at_once o) files before now why
refuses_stops o files before now (stop.Unread name) r = absurd r
refuses_stops o files before now (stop.Refused line) r = told_all files _ (λ held. r)
refuses_stops o files before now stop.NoMemory r = r

module _ (asked : AskedData) (files : Files) (bytes : List ℕ) (read : Told files (λ held. (sheet_file_opens held asked.file).outcome ≡ Passed bytes)) where
  bytes_on : Told files (λ held. Continues (sheet_opens asked held) (from_bytes asked held bytes))
  bytes_on = all_go_on files (λ held. sheet_file_opens held asked.file) (λ held. from_bytes asked held) bytes read

  -- what the check of the sheet refuses stops the opening
  pub check_stops : (before mid now : Counts) → NoneFell before mid → (why : Stop (List ℕ)) → Refuses (sheet_in asked bytes) why → Stops (sheet_opens asked) files before now why
  check_stops before mid now fell why r =
      stops_later (sheet_opens asked) (λ held. from_bytes asked held bytes) before mid now fell files why bytes_on
      (stops_first (λ held. at_once (sheet_in asked bytes)) (λ held. from_sheet asked held) mid now files why (refuses_stops (sheet_in asked bytes) files mid now why r))

  module _ (sheet : SheetRead) (checked : sheet_in asked bytes ≡ Passed sheet) where
    sheet_on : Told files (λ held. Continues (sheet_opens asked held) (from_sheet asked held sheet))
    sheet_on = told_both files _ _ _ (λ held h k. continues_both _ _ _ h k) bytes_on
        (all_go_on files (λ held. at_once (sheet_in asked bytes)) (λ held. from_sheet asked held) sheet (told_all files _ (λ held. checked)))

    -- what stops the tables stops the opening
    pub tables_stop : (before mid now : Counts) → NoneFell before mid → (why : Stop (List ℕ)) → Stops (λ held. lookups_open held [] asked.lookups) files mid now why → Stops (sheet_opens asked) files before now why
    tables_stop before mid now fell why s =
        stops_later (sheet_opens asked) (λ held. from_sheet asked held sheet) before mid now fell files why sheet_on
        (stops_first (λ held. lookups_open held [] asked.lookups) (λ held tables. at_once (Passed (with_tables sheet tables))) mid now files why s)

    -- where they pass, the sheet is open
    pub all_pass : (tables : List TableData) → Told files (λ held. (lookups_open held [] asked.lookups).outcome ≡ Passed tables)
        → Told files (λ held. (sheet_opens asked held).outcome ≡ Passed (with_tables sheet tables))
    all_pass tables passed = told_both files _ _ _
        (λ held h k. h.same ∙ (goes_on (λ tables. at_once (Passed (with_tables sheet tables))) (lookups_open held [] asked.lookups) tables k).same) sheet_on passed
