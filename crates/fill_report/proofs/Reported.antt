-- The additions, the entries and the whole report.
use Rattle.std.proofs.Common.{◌≡◌, ℕ, ◌+◌, ◌<◌, List, [], ◌∷◌, ◌++◌, length, take, drop, get_or, Bool, true, false, Option, None, Some, Result, Ok, Err, inl, inr, sym, ap, ◌∙◌, refl, subst, arith}
use Rattle.std.proofs.lemmas.List.{take-append-drop, take_more}
use Rattle.std.specs.Prelude.{◌||◌}
use Rattle.std.proofs.KnownBytes.{Appends-nil}
use Rattle.fill_text.specs.Data.{SheetData}
use Rattle.fill_sheet.specs.Sheet.{given_at}
use Rattle.fill_tree.specs.declared.user.Edit.{Edit}
use Rattle.fill_tree.specs.declared.user.Edit.TheVariants.{Add}
use Rattle.fill_script.specs.declared.script.Entry.{Entry}
use Rattle.fill_script.specs.declared.script.Entry.TheVariants as entry
use Rattle.fill_space.specs.declared.ground.Ground.{Ground}
use Rattle.fill_session.specs.Timeline.{Timeline, forgotten}
use Rattle.fill_report.specs.Entries.{EntryBegins, EntryWrites, edit_told}
use Rattle.fill_report.specs.Output.{Leaves, Writes, WritesPart, WritesRecords}
use Rattle.fill_report.specs.Report.{BeginsReport, EntriesBegin, EntriesWrite, IsReport, addition, addition_at, additions, start}
use Rattle.fill_report.specs.Runs.{Written, followed, nothing}
use Rattle.fill_output.specs.declared.halt.Halt.{Halt}
use Rattle.fill_output.specs.declared.halt.Halt.TheVariants as halt
use Rattle.fill_output.proofs.Bytes.{appends_then, part_then}
use Rattle.fill_report.proofs.Leaving.{leaves_map, stops_map}
use Rattle.fill_report.proofs.Numbered.{additions_before, additions_more}
use Rattle.fill_report.proofs.Walk.{Wrote, either, runs_one, stops_before, stops_then, wrote_then}

-- what a writing leaves of entries
abbrev pub EntriesLeave : Ground → Timeline → List Entry → Timeline → Result Bool Halt → Option (List ℕ) → Option (List ℕ) → ℕ → ℕ → Type 0
EntriesLeave g first entries last r old new before now = Leaves (λ w. EntriesWrite g first entries w last) (EntriesBegin g first entries) r old new before now

-- what a writing leaves of one entry
abbrev pub EntryLeaves : Ground → Timeline → Entry → Timeline → Result Bool Halt → Option (List ℕ) → Option (List ℕ) → ℕ → ℕ → Type 0
EntryLeaves g first e last r old new before now = Leaves (λ w. EntryWrites g first e w last) (EntryBegins g first e) r old new before now

pub flag_then : (p q flag : Bool) → p ≡ true → flag ≡ true → flag ≡ (p || q)
flag_then p q flag e f = f ∙ ap (λ (x : Bool). x || q) (sym e)

pub flag_else : (p q flag : Bool) → p ≡ false → flag ≡ q → flag ≡ (p || q)
flag_else p q flag e f = f ∙ ap (λ (x : Bool). x || q) (sym e)

-- one entry alone
pub leaves_single : (g : Ground) (first last : Timeline) (e : Entry) (es : List Entry) (r : Result Bool Halt) (old new : Option (List ℕ)) (before now : ℕ) → es ≡ e ∷ []
    → EntryLeaves g first e last r old new before now → EntriesLeave g first es last r old new before now
leaves_single g first last e es r old new before now is l =
    subst (λ (x : List Entry). EntriesLeave g first x last r old new before now) (sym is)
    (leaves_map (λ w. EntryWrites g first e w last) (λ w. EntriesWrite g first (e ∷ []) w last) (EntryBegins g first e) (EntriesBegin g first (e ∷ []))
    (λ w h. runs_one (EntryWrites g) (EntryBegins g) first last e w h) (λ w h. inl h) r old new before now l)

pub given_on : (a b : SheetData) (row : ℕ) (o : Option (List ℕ)) → a ≡ b → o ≡ given_at a row → o ≡ given_at b row
given_on a b row o same e = e ∙ ap (λ (x : SheetData). given_at x row) same

pub add_none : (sheet : SheetData) (row : ℕ) → None ≡ given_at sheet row → addition_at sheet row ≡ []
add_none sheet row e = ap (addition row) (sym e)

pub add_some : (sheet : SheetData) (row : ℕ) (text : List ℕ) → Some text ≡ given_at sheet row → addition_at sheet row ≡ entry.Edit (Add row text) ∷ []
add_some sheet row text e = ap (addition row) (sym e)

-- an edit that could not be made since memory ran out
pub lost_single : (g : Ground) (first : Timeline) (e : Edit) (es : List Entry) (old : Option (List ℕ)) (steps : ℕ) → es ≡ entry.Edit e ∷ []
    → WritesRecords (EntriesBegin g first es) old old steps steps
lost_single g first e es old steps is = (
  edit_told g.sheet first.examples e nothing,
  subst (λ (x : List Entry). EntriesBegin g first x (edit_told g.sheet first.examples e nothing)) (sym is) (inl (inl refl)),
  Appends-nil old,
  omega arith,
)

module _ (g h : Ground) (first mid last : Timeline) (p : Bool) (old half new : Option (List ℕ)) (b0 b1 b2 : ℕ) (same : h ≡ g) where
  -- entries, and then others over the same ground
  pub next_wrote : (xs ys all : List Entry) (q flag : Bool) → all ≡ xs ++ ys → flag ≡ (p || q) → Wrote g first xs mid p old half b0 b1 → Wrote h mid ys last q half new b1 b2
      → Wrote g first all last flag old new b0 b2
  next_wrote xs ys all q flag e f a l =
      subst (λ (es : List Entry). Wrote g first es last flag old new b0 b2) (sym e)
      (wrote_then g first mid xs p old half new b0 b1 b2 a last ys q flag f (subst (λ (x : Ground). Wrote x mid ys last q half new b1 b2) same l))

  -- entries, and then others over the same ground that stop, before the rest
  pub next_stops : (V : Written → Type 0) (xs ys rest all : List Entry) (why : Halt) → all ≡ (xs ++ ys) ++ rest → Wrote g first xs mid p old half b0 b1
      → EntriesLeave h mid ys last (Err why) half new b1 b2 → Leaves V (EntriesBegin g first all) (Err why) old new b0 b2
  next_stops V xs ys rest all why e a l =
      stops_before g first (λ w. EntriesWrite g first (xs ++ ys) w last) V (xs ++ ys) rest all why old new b0 b2 e
      (stops_then g first mid xs p old half new b0 b1 b2 a (λ w. EntriesWrite g mid ys w last) (λ w. EntriesWrite g first (xs ++ ys) w last) ys why
      (subst (λ (x : Ground). EntriesLeave x mid ys last (Err why) half new b1 b2) same l))

  -- the same, of the additions of rows
  pub addition_next : (n : ℕ) (q flag : Bool) → flag ≡ (p || q) → Wrote g first (additions g.sheet n) mid p old half b0 b1
      → Wrote h mid (addition_at h.sheet (n + 1)) last q half new b1 b2 → Wrote g first (additions g.sheet (n + 1)) last flag old new b0 b2
  addition_next n q flag f a l =
      let ys : addition_at h.sheet (n + 1) ≡ addition_at g.sheet (n + 1) = ap (λ (x : Ground). addition_at x.sheet (n + 1)) same in
      next_wrote (additions g.sheet n) (addition_at g.sheet (n + 1)) (additions g.sheet (n + 1)) q flag (additions_more g.sheet n) f a
      (subst (λ (es : List Entry). Wrote h mid es last q half new b1 b2) ys l)

  pub addition_stops : (V : Written → Type 0) (n : ℕ) (why : Halt) → n < length g.sheet.rows → Wrote g first (additions g.sheet n) mid p old half b0 b1
      → EntriesLeave h mid (addition_at h.sheet (n + 1)) last (Err why) half new b1 b2
      → Leaves V (EntriesBegin g first (additions g.sheet (length g.sheet.rows))) (Err why) old new b0 b2
  addition_stops V n why lt a l =
      let ys : addition_at h.sheet (n + 1) ≡ addition_at g.sheet (n + 1) = ap (λ (x : Ground). addition_at x.sheet (n + 1)) same in
      let more = additions_before g.sheet (n + 1) (length g.sheet.rows) (omega arith) in
      next_stops V (additions g.sheet n) (addition_at g.sheet (n + 1)) more.0 (additions g.sheet (length g.sheet.rows)) why
      (more.1 ∙ ap (λ (es : List Entry). es ++ more.0) (additions_more g.sheet n)) a
      (subst (λ (es : List Entry). EntriesLeave h mid es last (Err why) half new b1 b2) ys l)

  -- the same, of a list of entries
  pub entry_next : (entries : List Entry) (i : ℕ) (e : Entry) (q flag : Bool) → i < length entries → e ≡ get_or entries i e → flag ≡ (p || q)
      → Wrote g first (take i entries) mid p old half b0 b1 → EntryLeaves h mid e last (Ok q) half new b1 b2 → Wrote g first (take (i + 1) entries) last flag old new b0 b2
  entry_next entries i e q flag lt is f a l =
      next_wrote (take i entries) (e ∷ []) (take (i + 1) entries) q flag (take_more entries i e lt ∙ ap (λ (x : Entry). take i entries ++ x ∷ []) (sym is)) f a
      (leaves_single h mid last e (e ∷ []) (Ok q) half new b1 b2 refl l)

  pub entry_stops : (V : Written → Type 0) (entries : List Entry) (i : ℕ) (e : Entry) (why : Halt) → i < length entries → e ≡ get_or entries i e
      → Wrote g first (take i entries) mid p old half b0 b1 → EntryLeaves h mid e last (Err why) half new b1 b2
      → Leaves V (EntriesBegin g first entries) (Err why) old new b0 b2
  entry_stops V entries i e why lt is a l =
      let next : take (i + 1) entries ≡ take i entries ++ e ∷ [] = take_more entries i e lt ∙ ap (λ (x : Entry). take i entries ++ x ∷ []) (sym is) in
      next_stops V (take i entries) (e ∷ []) (drop (i + 1) entries) entries why
      (sym (take-append-drop (i + 1) entries) ∙ ap (λ (es : List Entry). es ++ drop (i + 1) entries) next) a
      (leaves_single h mid last e (e ∷ []) (Err why) half new b1 b2 refl l)

is_report : (g : Ground) (entries : List Entry) (first : Written) (mid : Timeline) (later : Written) (last : Timeline)
    → EntriesWrite g start (additions g.sheet (length g.sheet.rows)) first mid → EntriesWrite g (forgotten mid) entries later last → IsReport g entries (followed first later)
unfolding IsReport
is_report g entries first mid later last a b = (first, mid, later, last, a, b, refl)

begins_first : (g : Ground) (entries : List Entry) (w : Written) → EntriesBegin g start (additions g.sheet (length g.sheet.rows)) w → BeginsReport g entries w
unfolding BeginsReport
begins_first g entries w h = inl h

begins_later : (g : Ground) (entries : List Entry) (first : Written) (mid : Timeline) (later : Written)
    → EntriesWrite g start (additions g.sheet (length g.sheet.rows)) first mid → EntriesBegin g (forgotten mid) entries later → BeginsReport g entries (followed first later)
unfolding BeginsReport
begins_later g entries first mid later a b = inr (first, mid, later, a, b, refl)

module _ (g : Ground) (from : Timeline) (entries : List Entry) (old : Option (List ℕ)) (b0 : ℕ) (none : from ≡ start) where
  -- the report stops at the additions
  pub report_opening : (last : Timeline) (why : Halt) (new : Option (List ℕ)) (b1 : ℕ)
      → EntriesLeave g from (additions g.sheet (length g.sheet.rows)) last (Err why) old new b0 b1 → Leaves (IsReport g entries) (BeginsReport g entries) (Err why) old new b0 b1
  report_opening last why new b1 l =
      let all = additions g.sheet (length g.sheet.rows) in
      stops_map (λ w. EntriesWrite g start all w last) (IsReport g entries) (EntriesBegin g start all) (BeginsReport g entries) (begins_first g entries) why old new b0 b1
      (subst (λ (t : Timeline). EntriesLeave g t all last (Err why) old new b0 b1) none l)

module _ (g : Ground) (from : Timeline) (entries : List Entry) (old : Option (List ℕ)) (b0 : ℕ) (none : from ≡ start) (h : Ground) (mid on last : Timeline) (p : Bool) (half new : Option (List ℕ)) (b1 b2 : ℕ) (same : h ≡ g) (is : on ≡ forgotten mid) (so_far : Wrote g from (additions g.sheet (length g.sheet.rows)) mid p old half b0 b1) where
  opened : Wrote g start (additions g.sheet (length g.sheet.rows)) mid p old half b0 b1
  opened = subst (λ (t : Timeline). Wrote g t (additions g.sheet (length g.sheet.rows)) mid p old half b0 b1) none so_far

  -- the entries as they are written after the additions
  after : (r : Result Bool Halt) → EntriesLeave h on entries last r half new b1 b2 → EntriesLeave g (forgotten mid) entries last r half new b1 b2
  after r l =
      subst (λ (t : Timeline). EntriesLeave g t entries last r half new b1 b2) is (subst (λ (x : Ground). EntriesLeave x on entries last r half new b1 b2) same l)

  stopped : (why : Halt) → EntriesLeave g (forgotten mid) entries last (Err why) half new b1 b2 → Leaves (IsReport g entries) (BeginsReport g entries) (Err why) old new b0 b2
  stopped halt.Fault l = (
    followed opened.0 l.0,
    begins_later g entries opened.0 mid l.0 opened.1 l.1,
    part_then old half new opened.0.records l.0.records opened.2 l.2,
    omega (arith, opened.4, l.3),
  )
  stopped halt.NoMemory l = (
    followed opened.0 l.0,
    begins_later g entries opened.0 mid l.0 opened.1 l.1,
    appends_then old half new opened.0.records l.0.records opened.2 l.2,
    omega (arith, opened.4, l.3),
  )

  -- the report stops at the entries
  pub report_entries : (why : Halt) → EntriesLeave h on entries last (Err why) half new b1 b2 → Leaves (IsReport g entries) (BeginsReport g entries) (Err why) old new b0 b2
  report_entries why l = stopped why (after (Err why) l)

  -- the report is whole
  pub report_whole : (q flag : Bool) → flag ≡ (p || q) → Wrote h on entries last q half new b1 b2 → Writes (IsReport g entries) flag old new b0 b2
  report_whole q flag f l =
      let more : Wrote g (forgotten mid) entries last q half new b1 b2 = after (Ok q) l in (
        followed opened.0 more.0,
        is_report g entries opened.0 mid more.0 last opened.1 more.1,
        appends_then old half new opened.0.records more.0.records opened.2 more.2,
        either p q flag opened.0.refused more.0.refused f opened.3 more.3,
        omega (arith, opened.4, more.4),
      )

-- by the answer
pub leaves_part : (W B : Written → Type 0) (r : Result Bool Halt) (old new : Option (List ℕ)) (before now : ℕ) → Leaves W B r old new before now → r ≡ Err halt.Fault
    → WritesPart B old new before now
leaves_part W B r old new before now l e = subst (λ (x : Result Bool Halt). Leaves W B x old new before now) e l

pub leaves_records : (W B : Written → Type 0) (r : Result Bool Halt) (old new : Option (List ℕ)) (before now : ℕ) → Leaves W B r old new before now → r ≡ Err halt.NoMemory
    → WritesRecords B old new before now
leaves_records W B r old new before now l e = subst (λ (x : Result Bool Halt). Leaves W B x old new before now) e l
