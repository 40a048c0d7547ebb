-- The steps of an application.
use Rattle.std.proofs.Common.{◌≡◌, ℕ, ◌≤◌, List, [], ◌⊎◌, inl, inr, None, Some, Result, Ok, Err, Contains, refl, sym, ap, ◌∙◌, arith, subst}
use Rattle.std.specs.Prelude.{string_bytes}
use Rattle.std.proofs.lemmas.List.Elements.{Contains-append_left}
use Rattle.fill_text.specs.Data.{SheetData, TableData}
use Rattle.fill_edge.specs.Outside.{Files, Rose, NoneFell}
use Rattle.fill_tree.specs.Switch.{SwitchTree}
use Rattle.fill_script.specs.declared.script.Script.{Script}
use Rattle.fill_apply.specs.Saved.{SavedIs}
use Rattle.fill_apply.specs.declared.error.ApplyError.{ApplyError}
use Rattle.fill_apply.specs.declared.error.ApplyError.TheVariants as error
use Rattle.fill_open.specs.Apply.{Applied, AppliedIs, ApplyStops, ApplyUnread, IsReading, Names, ProgramRefuses, Reading, apply_opens, program_in, with_program, with_report, with_script, with_sheet}
use Rattle.fill_opening.specs.Opened.{Held, Told, Opened, Unread, Refused, Passed, at_once, further}
use Rattle.fill_open.specs.Refusal.{RefusalData}
use Rattle.fill_open.specs.Steps.{file_opens, script_opens, sheet_opens, tables_open}
use Rattle.fill_opening.specs.Stops.{Counts, IsUnread, ReadFails, Stops}
use Rattle.fill_opening.specs.declared.stop.Stop.{Stop}
use Rattle.fill_opening.specs.declared.stop.Stop.TheVariants as stop
use Rattle.fill_opening.proofs.Binds.{Continues, continues_both, goes_on, refused_first, stops_first, stops_later, told_both, told_one, unread_first}

same_passed : {A : Type 0} (o : Opened RefusalData A) (x y : A) → o ≡ Passed x → o ≡ Passed y → x ≡ y
same_passed o x y p q = let e : Passed x ≡ Passed y = sym p ∙ q in cc

unread_passed : {A : Type 0} (o : Opened RefusalData A) (name : List ℕ) (x : A) → o ≡ Unread name → o ≡ Passed x → ⊥
unread_passed o name x p q = let e : Unread name ≡ Passed x = sym p ∙ q in cc

refused_passed : {A : Type 0} (o : Opened RefusalData A) (r : RefusalData) (x : A) → o ≡ Refused r → o ≡ Passed x → ⊥
refused_passed o r x p q = let e : Refused r ≡ Passed x = sym p ∙ q in cc

rose_before : (a b c : ℕ) → a ≤ b → Rose b c → Rose a c
rose_before a b c le r = omega arith

-- what is said to come of a report to which the steps do not come
abbrev any : Reading
any = Err error.NoMemory

-- the session stops the steps
script_unread : (names : Names) (files : Files) (before now : Counts) (name : List ℕ)
    → IsUnread (λ held. script_opens held names.session) files name ⊎ ReadFails (λ held. script_opens held names.session) files before now name → ApplyUnread names files before now name
script_unread names None before now name (inl u) = absurd u
script_unread names None before now name (inr r) = r
script_unread names (Some held) before now name (inl u) =
    inl (any, (λ script bytes p q. absurd (unread_passed (script_opens held names.session).outcome name script u p)), unread_first (with_script any names held) (script_opens held names.session) name u)
script_unread names (Some held) before now name (inr r) =
    inr ((λ reading is. Contains-append_left (script_opens held names.session).reads (further (with_script reading names held) (script_opens held names.session).outcome).reads name r.0), r.1)

pub script_stops : (names : Names) (files : Files) (before now : Counts) (why : Stop RefusalData) → Stops (λ held. script_opens held names.session) files before now why → ApplyStops names files before now why
script_stops names files before now (stop.Unread name) s = script_unread names files before now (string_bytes name) s
script_stops names files before now (stop.Refused r) s =
    told_one files (λ held. (script_opens held names.session).outcome ≡ Refused r) (λ held. AppliedIs names held (Refused r)) (λ held e. (
      any,
      (λ script bytes p q. absurd (refused_passed (script_opens held names.session).outcome r script e p)),
      refused_first (with_script any names held) (script_opens held names.session) r e,
    )) s
script_stops names files before now stop.NoMemory s = tt

-- the session was read, and the report's file stops the steps
report_unread : (names : Names) (files : Files) (script : Script) (before mid now : Counts) → NoneFell before mid → Told files (λ held. (script_opens held names.session).outcome ≡ Passed script) → (name : List ℕ)
    → IsUnread (λ held. file_opens held names.program) files name ⊎ ReadFails (λ held. file_opens held names.program) files mid now name → ApplyUnread names files before now name
report_unread names None script before mid now fell passed name (inl u) = absurd u
report_unread names None script before mid now fell passed name (inr r) = rose_before _ _ _ (fell name) r
report_unread names (Some held) script before mid now fell passed name (inl u) = inl (
  any,
  (λ other bytes p q. absurd (unread_passed (file_opens held names.program).outcome name bytes u q)),
  (goes_on (with_script any names held) (script_opens held names.session) script passed).same ∙ unread_first (λ (bytes : List ℕ). with_report held names script any) (file_opens held names.program) name u,
)
report_unread names (Some held) script before mid now fell passed name (inr r) = inr (
  (λ reading is. (goes_on (with_script reading names held) (script_opens held names.session) script passed).reads name
      (Contains-append_left (file_opens held names.program).reads (further (λ (bytes : List ℕ). with_report held names script reading) (file_opens held names.program).outcome).reads name r.0)),
  rose_before _ _ _ (fell name) r.1,
)

pub report_stops : (names : Names) (files : Files) (script : Script) (before mid now : Counts) (why : Stop RefusalData) → NoneFell before mid
    → Told files (λ held. (script_opens held names.session).outcome ≡ Passed script) → Stops (λ held. file_opens held names.program) files mid now why → ApplyStops names files before now why
report_stops names files script before mid now (stop.Unread name) fell passed s = report_unread names files script before mid now fell passed (string_bytes name) s
report_stops names files script before mid now (stop.Refused r) fell passed s =
    told_both files (λ held. (script_opens held names.session).outcome ≡ Passed script) (λ held. (file_opens held names.program).outcome ≡ Refused r) (λ held. AppliedIs names held (Refused r)) (λ held p e. (
      any,
      (λ other bytes _ q. absurd (refused_passed (file_opens held names.program).outcome r bytes e q)),
      (goes_on (with_script any names held) (script_opens held names.session) script p).same ∙ refused_first (λ (bytes : List ℕ). with_report held names script any) (file_opens held names.program) r e,
    )) passed s
report_stops names files script before mid now stop.NoMemory fell passed s = tt

-- the session and the report were read, and this comes of the report
module _ (names : Names) (script : Script) (bytes : List ℕ) (r : Reading) (saved : SavedIs script.inputs bytes r) where
  is_reading : (held : Held) → (script_opens held names.session).outcome ≡ Passed script → (file_opens held names.program).outcome ≡ Passed bytes → IsReading names held r
  is_reading held p q = λ other more p2 q2.
      let a : script ≡ other = same_passed (script_opens held names.session).outcome script other p p2 in
      let b : bytes ≡ more = same_passed (file_opens held names.program).outcome bytes more q q2 in
      subst (λ (x : Script). SavedIs x.inputs more r) a (subst (λ (y : List ℕ). SavedIs script.inputs y r) b saved)

  to_report : (held : Held) → (script_opens held names.session).outcome ≡ Passed script → (file_opens held names.program).outcome ≡ Passed bytes → Continues (apply_opens r names held) (with_report held names script r)
  to_report held p q =
      continues_both (apply_opens r names held) (with_script r names held script) (with_report held names script r)
      (goes_on (with_script r names held) (script_opens held names.session) script p)
      (goes_on (λ (more : List ℕ). with_report held names script r) (file_opens held names.program) bytes q)

  -- the report is refused
  pub refused_report : (files : Files) (x : RefusalData) → Told files (λ held. (script_opens held names.session).outcome ≡ Passed script) → Told files (λ held. (file_opens held names.program).outcome ≡ Passed bytes)
      → program_in names.program r ≡ Refused x → Told files (λ held. AppliedIs names held (Refused x))
  refused_report files x p q e =
      told_both files (λ held. (script_opens held names.session).outcome ≡ Passed script) (λ held. (file_opens held names.program).outcome ≡ Passed bytes) (λ held. AppliedIs names held (Refused x)) (λ held a b. (
        r,
        is_reading held a b,
        (to_report held a b).same ∙ refused_first (with_program held names script) (at_once (program_in names.program r)) x e,
      )) p q

pub report_refused : (names : Names) (files : Files) (script : Script) (bytes : List ℕ) (before now : Counts) (why : Stop RefusalData)
    → Told files (λ held. (script_opens held names.session).outcome ≡ Passed script) → Told files (λ held. (file_opens held names.program).outcome ≡ Passed bytes)
    → ProgramRefuses script.inputs names.program bytes why → ApplyStops names files before now why
report_refused names files script bytes before now (stop.Unread name) p q h = absurd h
report_refused names files script bytes before now (stop.Refused x) p q h = refused_report names script bytes h.0 h.1 files x p q h.2
report_refused names files script bytes before now stop.NoMemory p q h = tt

abbrev pub IsOne : Type 0
IsOne = (inputs : List ℕ) (bytes : List ℕ) (x : Result SwitchTree ApplyError) (y : Result SwitchTree ApplyError) → SavedIs inputs bytes x → SavedIs inputs bytes y → x ≡ y

-- the session and the report were read, and the report saves this conditional program
module _ (one : IsOne) (names : Names) (script : Script) (bytes : List ℕ) (s : SwitchTree) (saved : SavedIs script.inputs bytes (Ok s)) where
  to_program : (held : Held) → (script_opens held names.session).outcome ≡ Passed script → (file_opens held names.program).outcome ≡ Passed bytes
      → Continues (apply_opens (Ok s) names held) (with_program held names script s)
  to_program held p q =
      continues_both (apply_opens (Ok s) names held) (with_report held names script (Ok s)) (with_program held names script s) (to_report names script bytes (Ok s) saved held p q)
      (goes_on (with_program held names script) (at_once (program_in names.program (Ok s))) s refl)

  later_unread : (files : Files) (before mid now : Counts) → NoneFell before mid → Told files (λ held. (script_opens held names.session).outcome ≡ Passed script) → Told files (λ held. (file_opens held names.program).outcome ≡ Passed bytes)
      → (name : List ℕ) → IsUnread (λ held. with_program held names script s) files name ⊎ ReadFails (λ held. with_program held names script s) files mid now name → ApplyUnread names files before now name
  later_unread None before mid now fell p q name (inl u) = absurd u
  later_unread None before mid now fell p q name (inr r) = rose_before _ _ _ (fell name) r
  later_unread (Some held) before mid now fell p q name (inl u) = inl (Ok s, is_reading names script bytes (Ok s) saved held p q, (to_program held p q).same ∙ u)
  later_unread (Some held) before mid now fell p q name (inr r) = inr (
    (λ reading is. subst (λ (x : Reading). Contains (apply_opens x names held).reads name) (one script.inputs bytes (Ok s) reading saved (is script bytes p q)) ((to_program held p q).reads name r.0)),
    rose_before _ _ _ (fell name) r.1,
  )

  -- what stops the later steps stops all
  pub later_stops : (files : Files) (before mid now : Counts) (why : Stop RefusalData) → NoneFell before mid → Told files (λ held. (script_opens held names.session).outcome ≡ Passed script)
      → Told files (λ held. (file_opens held names.program).outcome ≡ Passed bytes) → Stops (λ held. with_program held names script s) files mid now why → ApplyStops names files before now why
  later_stops files before mid now (stop.Unread name) fell p q st = later_unread files before mid now fell p q (string_bytes name) st
  later_stops files before mid now (stop.Refused r) fell p q st =
      let known = told_both files (λ held. (script_opens held names.session).outcome ≡ Passed script) (λ held. (file_opens held names.program).outcome ≡ Passed bytes)
      (λ held. IsReading names held (Ok s) × Continues (apply_opens (Ok s) names held) (with_program held names script s)) (λ held a b. (is_reading names script bytes (Ok s) saved held a b, to_program held a b)) p q in
      told_both files (λ held. IsReading names held (Ok s) × Continues (apply_opens (Ok s) names held) (with_program held names script s)) (λ held. (with_program held names script s).outcome ≡ Refused r)
      (λ held. AppliedIs names held (Refused r)) (λ held k e. (Ok s, k.0, k.1.same ∙ e)) known st
  later_stops files before mid now stop.NoMemory fell p q st = tt

  -- what stops the sheet
  pub sheet_stops : (files : Files) (before mid now : Counts) (why : Stop RefusalData) → NoneFell before mid → Told files (λ held. (script_opens held names.session).outcome ≡ Passed script)
      → Told files (λ held. (file_opens held names.program).outcome ≡ Passed bytes) → Stops (λ held. sheet_opens held script None names.sheet) files mid now why → ApplyStops names files before now why
  sheet_stops files before mid now why fell p q st =
      later_stops files before mid now why fell p q (stops_first (λ held. sheet_opens held script None names.sheet) (λ held. with_sheet held names script s) mid now files why st)

  module _ (sheet : SheetData) where
    -- what stops the tables
    pub tables_stop : (files : Files) (before first mid now : Counts) (why : Stop RefusalData) → NoneFell before first → NoneFell first mid → Told files (λ held. (script_opens held names.session).outcome ≡ Passed script)
        → Told files (λ held. (file_opens held names.program).outcome ≡ Passed bytes) → Told files (λ held. (sheet_opens held script None names.sheet).outcome ≡ Passed sheet)
        → Stops (λ held. tables_open held names.session [] script.tables) files mid now why → ApplyStops names files before now why
    tables_stop files before first mid now why fell fell_on p q t st =
        let rest = stops_first (λ held. tables_open held names.session [] script.tables) (λ held tables. at_once (Passed (record { switch = s; sheet = sheet; tables = tables }))) mid now files why st in
        let on = told_one files (λ held. (sheet_opens held script None names.sheet).outcome ≡ Passed sheet) (λ held. Continues (with_program held names script s) (with_sheet held names script s sheet))
        (λ held e. goes_on (with_sheet held names script s) (sheet_opens held script None names.sheet) sheet e) t in
        later_stops files before first now why fell p q (stops_later (λ held. with_program held names script s) (λ held. with_sheet held names script s sheet) first mid now fell_on files why on rest)

    -- all steps passed
    pub all_passed : (files : Files) (tables : List TableData) → Told files (λ held. (script_opens held names.session).outcome ≡ Passed script)
        → Told files (λ held. (file_opens held names.program).outcome ≡ Passed bytes) → Told files (λ held. (sheet_opens held script None names.sheet).outcome ≡ Passed sheet)
        → Told files (λ held. (tables_open held names.session [] script.tables).outcome ≡ Passed tables)
        → Told files (λ held. AppliedIs names held (Passed (record { switch = s; sheet = sheet; tables = tables })))
    all_passed None tables p q t u = tt
    all_passed (Some held) tables p q t u = (
      Ok s,
      is_reading names script bytes (Ok s) saved held p q,
      (to_program held p q).same ∙ (goes_on (with_sheet held names script s) (sheet_opens held script None names.sheet) sheet t).same
          ∙ (goes_on (λ (ts : List TableData). at_once (Passed (record { switch = s; sheet = sheet; tables = ts }))) (tables_open held names.session [] script.tables) tables u).same,
    )

-- the steps end with one thing at most
module _ (one : IsOne) (names : Names) (held : Held) (r t : Reading) (h : IsReading names held r) (k : IsReading names held t) where
  by_report : (script : Script) → (script_opens held names.session).outcome ≡ Passed script → (o : Opened RefusalData (List ℕ)) → (file_opens held names.program).outcome ≡ o
      → (further (λ (bytes : List ℕ). with_report held names script r) o).outcome ≡ (further (λ (bytes : List ℕ). with_report held names script t) o).outcome
  by_report script p (Unread name) q = refl
  by_report script p (Refused x) q = refl
  by_report script p (Passed bytes) q = ap (λ (x : Reading). (with_report held names script x).outcome) (one script.inputs bytes r t (h script bytes p q) (k script bytes p q))

  by_script : (o : Opened RefusalData Script) → (script_opens held names.session).outcome ≡ o → (further (with_script r names held) o).outcome ≡ (further (with_script t names held) o).outcome
  by_script (Unread name) p = refl
  by_script (Refused x) p = refl
  by_script (Passed script) p = by_report script p (file_opens held names.program).outcome refl

pub applied_one : IsOne → (names : Names) (held : Held) (x y : Opened RefusalData Applied) → AppliedIs names held x → AppliedIs names held y → x ≡ y
applied_one one names held x y h k = sym h.2 ∙ by_script one names held h.0 k.0 h.1 k.1 (script_opens held names.session).outcome refl ∙ k.2
