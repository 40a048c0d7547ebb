-- The scan of a sheet's file, and what is opened by it.
use Rattle.fill_edge.specs.declared.outside.TheConstants.{LAST_PLACE}
use Rattle.std.proofs.Common.{◌≡◌, ◌∙◌, ◌≤◌, ◌⊎◌, ℕ, List, [], ◌∷◌, Bool, false, Option, None, Some, Ok, Err, ap, arith, inr, length, nat_lt, refl, subst, sym}
use Rattle.std.specs.Prelude.{Contains, IfSome, string_bytes, unwrap_or}
use Rattle.std.proofs.lemmas.Bool.Decides.{nat_tests}
use Rattle.std.proofs.lemmas.List.Elements.{Contains-append_left, Contains-push}
use Rattle.fill_text.specs.Data.{TableData}
use Rattle.fill_edge.specs.Outside.{Files, NoneFell, Rose}
use Rattle.fill_opening.specs.Opened.{Held, Told, Refused, Passed, at_once, further}
use Rattle.fill_opening.specs.Stops.{Counts, IsUnread, ReadFails, Refuses, Stops}
use Rattle.fill_opening.specs.declared.stop.Stop.{Stop}
use Rattle.fill_opening.specs.declared.stop.Stop.TheVariants as stop
use Rattle.fill_opening.proofs.Binds.{stops_first, stops_later}
use Rattle.fill_passes.specs.Files.{IsThere, IsTold, told_bytes}
use Rattle.fill_passes.proofs.Known.{when_some}
use Rattle.fillcsv_tables.specs.Files.{file_opens}
use Rattle.fillcsv_tables.specs.Tables.{lookups_open}
use Rattle.fill_stream.specs.Fronts.{is_marked}
use Rattle.fillcsv_columns.specs.Choice.{choice_data}
use Rattle.fillcsv_columns.specs.Columns.{width}
use Rattle.fillcsv_options.specs.Words.{AskedData}
use Rattle.fillcsv_run.specs.Ends.{Opens}
use Rattle.fillcsv_run.specs.Opening.{choice_of, from_bytes, from_sheet, header_of, output_of, records_in, sheet_file_opens, sheet_in, sheet_opens, with_choice, with_tables}
use Rattle.fillcsv_run.specs.Read.{AreParts, AreRowsIn, IsNoRead, IsScanned, IsStopUnread, IsReady, IsUnreadFor, OpensDesk, OpensFile, bytes_in, page_data, read_data, sheet_in as all_rows}
use Rattle.fillcsv_run.specs.Pages.{page_of}
use Rattle.fillcsv_run.specs.declared.desk.Desk.{Desk}
use Rattle.fillcsv_run.specs.declared.opening.SheetFile.{SheetFile as Code}
use Rattle.fillcsv_run.proofs.Steps.{all_pass, check_stops, tables_stop}

passed_bytes : (most : ℕ) (held : Held) (name bytes : List ℕ) → held name ≡ Some bytes → length bytes ≤ most → (file_opens most held name).outcome ≡ Passed bytes
passed_bytes most held name bytes is few = let fits : nat_lt most (length bytes) ≡ false = grind (arith, nat_tests) in rw (is, fits) refl

later_rose : (a b c : ℕ) → a ≤ b → Rose b c → Rose a c
later_rose a b c le r = omega arith

-- what the check of the bytes refuses ends the scan
pub refused_scan : (asked : AskedData) (bytes : List ℕ) (why : Stop (List ℕ)) → Refuses (sheet_in asked bytes) why → IsScanned asked bytes (Err why)
refused_scan asked bytes (stop.Unread name) r = absurd r
refused_scan asked bytes (stop.Refused line) r = r
refused_scan asked bytes stop.NoMemory r = tt

-- the columns are chosen, and the rows can be read in them
pub passed_scan : (asked : AskedData) (bytes : List ℕ) (r : Code) → r.tables ≡ [] → choice_of asked (records_in bytes) ≡ Ok (choice_data r.choice) → AreRowsIn asked bytes r.choice (Ok r.typed)
    → r.marked ≡ is_marked bytes → r.header ≡ header_of asked.header (records_in bytes) → r.width ≡ width (records_in bytes) → IsScanned asked bytes (Ok r)
passed_scan asked bytes r none chosen rows mark header wide = (
  ap (with_choice asked bytes) chosen ∙ rows.1
      ∙ ap (λ (t : List TableData). Passed (record {
        bytes = bytes;
        choice = choice_data r.choice;
        sheet = all_rows asked.header r.choice.from.items (output_of asked.replace r.choice.to) bytes;
        typed = r.typed;
        tables = t;
      })) (sym none),
  record { marked = mark; header = header; width = wide; readable = rows.0 },
)

module _ (name : List ℕ) (Failed : Type 0) where
  pub unread_for : (other : List ℕ) (why : Stop (List ℕ)) → name ≡ other → IsStopUnread other why → Failed → IsUnreadFor name Failed why
  unread_for other (stop.Unread n) same is failed = (is ∙ sym same, failed)
  unread_for other (stop.Refused line) same is failed = tt
  unread_for other stop.NoMemory same is failed = tt

  -- no read failed
  pub no_read_for : (why : Stop (List ℕ)) → IsNoRead why → IsUnreadFor name Failed why
  no_read_for (stop.Unread n) is = absurd is
  no_read_for (stop.Refused line) is = tt
  no_read_for stop.NoMemory is = tt

module _ (asked : AskedData) (before mid now : Counts) (fell : NoneFell before mid) where
  read_first : (held : Held) → Contains (sheet_opens asked held).reads asked.file
  read_first held = Contains-append_left (asked.file ∷ []) (further (from_bytes asked held) (sheet_file_opens held asked.file).outcome).reads asked.file (Contains-push [] asked.file)

  scan_unread : (files : Files) (other : List ℕ) → other ≡ asked.file → Rose (mid asked.file) (now asked.file)
      → IsUnread (sheet_opens asked) files other ⊎ ReadFails (sheet_opens asked) files before now other
  scan_unread None other same rose = inr (subst (λ (n : List ℕ). Rose (before n) (now n)) (sym same) (later_rose _ _ _ (fell asked.file) rose))
  scan_unread (Some held) other same rose =
      inr (subst (λ (n : List ℕ). Contains (sheet_opens asked held).reads n × Rose (before n) (now n)) (sym same) (read_first held, later_rose _ _ _ (fell asked.file) rose))

  scan_refused : (files : Files) (line : List ℕ) → IsThere files asked.file LAST_PLACE → ((bytes : List ℕ) → IsTold files asked.file bytes → sheet_in asked bytes ≡ Refused line)
      → Told files (λ held. (sheet_opens asked held).outcome ≡ Refused line)
  scan_refused None line there refused = tt
  scan_refused (Some held) line there refused =
      check_stops asked (Some held) there.0 (passed_bytes LAST_PLACE held asked.file there.0 there.1 there.2) before mid now fell (stop.Refused line) (refused there.0 there.1)

  -- what stops the scan stops the opening
  pub scan_stops : (files : Files) (why : Stop (List ℕ)) → IsThere files asked.file LAST_PLACE → IsUnreadFor asked.file (Rose (mid asked.file) (now asked.file)) why
      → ((bytes : List ℕ) → IsTold files asked.file bytes → IsScanned asked bytes (Err why)) → Stops (sheet_opens asked) files before now why
  scan_stops files (stop.Unread name) there unread scanned = scan_unread files (string_bytes name) unread.0 unread.1
  scan_stops files (stop.Refused line) there unread scanned = scan_refused files line there scanned
  scan_stops files stop.NoMemory there unread scanned = tt

module _ (asked : AskedData) (marked : Bool) (r : Code) where
  abbrev pub Scanned : Files → Type 0
  Scanned files = IsThere files asked.file LAST_PLACE × IfSome (told_bytes files asked.file) (λ bytes. marked ≡ is_marked bytes)
      × ((bytes : List ℕ) → IsTold files asked.file bytes → marked ≡ is_marked bytes → IsScanned asked bytes (Ok r))

  -- the scan passed, and what stops the tables stops the opening
  pub tables_stop_opening : (files : Files) (before mid now : Counts) → NoneFell before mid → (why : Stop (List ℕ)) → Scanned files
      → Stops (λ held. lookups_open held [] asked.lookups) files mid now why → Stops (sheet_opens asked) files before now why
  tables_stop_opening None before mid now fell why scanned s =
      stops_later (sheet_opens asked) (λ held. from_sheet asked held (read_data asked [] r)) before mid now fell None why tt
      (stops_first (λ held. lookups_open held [] asked.lookups) (λ held tables. at_once (Passed (with_tables (read_data asked [] r) tables))) mid now None why s)
  tables_stop_opening (Some held) before mid now fell why scanned s =
      let bytes = scanned.0.0 in
      let is : held asked.file ≡ Some bytes = scanned.0.1 in
      let mark = when_some (λ (b : List ℕ). marked ≡ is_marked b) (held asked.file) bytes is scanned.1 in
      tables_stop asked (Some held) bytes (passed_bytes LAST_PLACE held asked.file bytes is scanned.0.2) (read_data asked bytes r) (scanned.2 bytes is mark).0 before mid now fell why s

  -- the scan passed, and so did the tables
  pub file_opened : (files : Files) (tables : List TableData) → Scanned files → Told files (λ held. (lookups_open held [] asked.lookups).outcome ≡ Passed tables)
      → OpensFile asked files (record r { tables = tables })
  file_opened None tables scanned passed = tt
  file_opened (Some held) tables scanned passed =
      let bytes = scanned.0.0 in
      let is : held asked.file ≡ Some bytes = scanned.0.1 in
      let mark = when_some (λ (b : List ℕ). marked ≡ is_marked b) (held asked.file) bytes is scanned.1 in
      let here = scanned.2 bytes is mark in
      let parts = here.1 in
      subst (λ (b : List ℕ). Opens asked (Some held) (read_data asked b (record r { tables = tables })) × AreParts asked b (record r { tables = tables }))
      (sym (ap (λ (o : Option (List ℕ)). unwrap_or o []) is)) (
        all_pass asked (Some held) bytes (passed_bytes LAST_PLACE held asked.file bytes is scanned.0.2) (read_data asked bytes r) here.0 tables passed,
        record { marked = parts.marked; header = parts.header; width = parts.width; readable = parts.readable },
      )

-- what was opened lies on a desk
pub desk_opened : (asked : AskedData) (files : Files) (r : Code) (d : Desk) → string_bytes d.file ≡ asked.file → d.ask ≡ asked.ask → ((bytes : List ℕ) → AreParts asked bytes r → IsReady bytes d)
    → ((bytes : List ℕ) → AreParts asked bytes r → page_data bytes d ≡ page_of asked (read_data asked bytes r)) → OpensFile asked files r → OpensDesk asked files d
desk_opened asked None r d file asks ready page opened = (file, asks, tt)
desk_opened asked (Some held) r d file asks ready page opened =
    let bytes = bytes_in held asked.file in (file, asks, (read_data asked bytes r, opened.0, ready bytes opened.1, page bytes opened.1))
