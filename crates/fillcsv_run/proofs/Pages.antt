-- What was written of a page, said of an equal one, and after a dialogue.
use Rattle.fill_edge.specs.declared.outside.TheConstants.{LAST_PLACE}
use Rattle.std.proofs.Common.{◌≡◌, ◌∙◌, ◌⊎◌, ◌≤◌, ℕ, List, [], Bool, Option, None, Some, Result, Err, true, false, ap, arith, inl, inr, refl, subst, sym}
use Rattle.std.specs.Prelude.{string_bytes, unwrap_or}
use Rattle.std.specs.Io.KnownBytes.{Keeps}
use Rattle.fill_edge.specs.Outside.{Files, NoneFell, Rose}
use Rattle.fill_opening.specs.Opened.{Told}
use Rattle.fill_opening.specs.Stops.{Counts}
use Rattle.fill_opening.proofs.Binds.{told_one}
use Rattle.fill_passes.specs.Files.{IsThere, IsTold}
use Rattle.fill_tree.specs.declared.user.Example.{Example}
use Rattle.fill_output.specs.declared.halt.Halt.{Halt}
use Rattle.fill_output.specs.declared.halt.Halt.TheVariants as halt
use Rattle.fillcsv_dialogue.specs.Told.{Grew}
use Rattle.fillcsv_dialogue.proofs.Growing.{grew_not}
use Rattle.fillcsv_options.specs.Words.{AskedData}
use Rattle.fillcsv_run.specs.Asking.{AreTyped, Heard, SaysAfter}
use Rattle.fillcsv_run.specs.Ends.{EndsFilled, Opens, WritesFilledPart, WritesFilledRows}
use Rattle.fillcsv_run.specs.Filling.{EndsDesk, EndsPage, FailsDesk, OfPage}
use Rattle.fillcsv_run.specs.Fills.{Fills}
use Rattle.fillcsv_run.specs.Ground.{ground_of}
use Rattle.fillcsv_run.specs.Lines.{unread_line}
use Rattle.fillcsv_run.specs.Opening.{SheetRead}
use Rattle.fillcsv_run.specs.Pages.{FillsPage, FillsPart, FillsRows, PageData, page_of, with_typed}
use Rattle.fillcsv_run.specs.Read.{IsAsked, IsReady, OpensDesk, bytes_in, page_data}
use Rattle.fillcsv_run.specs.Said.{Says}
use Rattle.fillcsv_run.specs.Saved.{StoreAt}
use Rattle.fillcsv_run.specs.Unfilled.{TellsUnfilled, unfilled_by}
use Rattle.fillcsv_run.specs.declared.desk.Desk.{Desk}
use Rattle.fillcsv_run.specs.declared.fill.Unfilled.{Unfilled}
use Rattle.fillcsv_run.specs.declared.fill.Unfilled.TheVariants as unfilled
use Rattle.fillcsv_run.specs.declared.told.Told.{Told as ToldData}
use Rattle.fillcsv_run.proofs.Endings.{IsOpened, again_ends, memory_ends, part_ends}

-- ---- what is said

pub says_at_once : (ask : Bool) (old new : Option (List ℕ)) (before now : ℕ) (line : List ℕ) → Says old new before now line → SaysAfter ask old new before now line
says_at_once true old new before now line says = (old, before, grew_not old before, says)
says_at_once false old new before now line says = says

-- after questions, of which there are none where none are wanted
pub says_after : {E : Type 0} (written : E → Option (List ℕ)) (faults : E → ℕ) (ask : Bool) (first mid last : E) (line : List ℕ) → (ask ≡ false → mid ≡ first)
    → Grew (written first) (written mid) (faults first) (faults mid) → Says (written mid) (written last) (faults mid) (faults last) line
    → SaysAfter ask (written first) (written last) (faults first) (faults last) line
says_after written faults true first mid last line same grew says = (written mid, faults mid, grew, says)
says_after {E} written faults false first mid last line same grew says =
    subst (λ (e : E). Says (written e) (written last) (faults e) (faults last) line) (same refl) says

-- ---- what was written of the page on the desk

pub rose_earlier : (a b c : ℕ) → a ≤ b → Rose b c → Rose a c
rose_earlier a b c le r = omega arith

-- a fact of each page
pub of_each : (files : Files) (d : Desk) (P : PageData → Type 0) → ((p : PageData) → P p) → OfPage files d P
of_each None d P f = tt
of_each (Some held) d P f = λ ready. f (page_data (bytes_in held (string_bytes d.file)) d)

-- a fact of the page on the desk is one of the sheet that the words opened
pub page_opened : (asked : AskedData) (files : Files) (d : Desk) (P : PageData → Type 0) → OpensDesk asked files d → OfPage files d P
    → Told files (λ other. (read : SheetRead) × Opens asked files read × P (page_of asked read))
page_opened asked None d P opens holds = tt
page_opened asked (Some held) d P opens holds =
    let here = opens.2 in
    let named : IsReady (bytes_in held asked.file) d → P (page_data (bytes_in held asked.file) d) =
    subst (λ (name : List ℕ). IsReady (bytes_in held name) d → P (page_data (bytes_in held name) d)) opens.0 holds in
    (here.0, here.1, subst P here.3 (named here.2))

pub desk_opened : (asked : AskedData) (files : Files) (d : Desk) → OpensDesk asked files d → IsOpened asked files
desk_opened asked None d opens = tt
desk_opened asked (Some held) d opens = (opens.2.0, opens.2.1)

-- what was written of a sheet that the words opened, where the words are told to ask as the desk does
module _ (asked : AskedData) (files : Files) (input : Heard) (old new : Option (List ℕ)) (ask : Bool) (same : ask ≡ asked.ask) where
  page_rows : (read : SheetRead) → Opens asked files read → FillsRows ask (page_of asked read) input old new → Keeps old new ⊎ WritesFilledRows asked files input old new
  page_rows read opens w = elim w [
    | inl keeps ↦ inl keeps
    | inr some ↦ elim some.2 [
      | inl keeps ↦ inl keeps
      | inr b ↦ inr (read, some.0, b.0, b.1, b.2, opens, subst (λ (a : Bool). AreTyped a (ground_of asked read) read.typed input some.0) same some.1, b.3, b.4.0, b.4.1)
    ]
  ]

  page_part : (read : SheetRead) → Opens asked files read → FillsPart ask (page_of asked read) input old new → WritesFilledPart asked files input old new
  page_part read opens w = (read, w.0, w.2.0, w.2.1, w.2.2, opens, subst (λ (a : Bool). AreTyped a (ground_of asked read) read.typed input w.0) same w.1, w.2.3, w.2.4.0, w.2.4.1)

-- how a run ends that fails on the sheet on the desk
module _ (asked : AskedData) (files : Files) (d : Desk) (input : Heard) (before mid now : Counts) (old new : Option (List ℕ)) (store : StoreAt) (Unwritten : Type 0) (Said : List ℕ → Type 0) where
  module _ (opens : OpensDesk asked files d) (fell : NoneFell before mid) where
    rows_written : OfPage files d (λ p. FillsRows d.ask p input old new) → Told files (λ other. Keeps old new ⊎ WritesFilledRows asked files input old new)
    rows_written w =
        told_one files (λ other. (read : SheetRead) × Opens asked files read × FillsRows d.ask (page_of asked read) input old new) (λ other. Keeps old new ⊎ WritesFilledRows asked files input old new)
        (λ other h. page_rows asked files input old new d.ask opens.1 h.0 h.1 h.2) (page_opened asked files d (λ p. FillsRows d.ask p input old new) opens w)

    part_written : OfPage files d (λ p. FillsPart d.ask p input old new) → Told files (λ other. WritesFilledPart asked files input old new)
    part_written w =
        told_one files (λ other. (read : SheetRead) × Opens asked files read × FillsPart d.ask (page_of asked read) input old new) (λ other. WritesFilledPart asked files input old new)
        (λ other h. page_part asked files input old new d.ask opens.1 h.0 h.1 h.2) (page_opened asked files d (λ p. FillsPart d.ask p input old new) opens w)

    pub desk_ends : (status : ℕ) → FailsDesk status files d Unwritten (Rose (mid (string_bytes d.file)) (now (string_bytes d.file))) input old new Said
        → EndsFilled asked files input status before now old new store store Unwritten Said
    desk_ends status (inl four) =
        part_ends asked files input before now old new store store Unwritten Said status four.0 refl (desk_opened asked files d opens) four.1 (part_written four.2) four.3
    desk_ends status (inr (inl again)) =
        again_ends asked files input before now old new store store Unwritten Said status again.0 refl (desk_opened asked files d opens) (
          subst (λ (name : List ℕ). Rose (before name) (now name)) opens.0 (rose_earlier _ _ _ (fell (string_bytes d.file)) again.1),
          rows_written again.2,
          subst (λ (name : List ℕ). Said (unread_line name)) opens.0 again.3,
        )
    desk_ends status (inr (inr six)) = memory_ends asked files input before now old new store store Unwritten Said status six.0 refl (rows_written six.1) six.2

-- the sheet that lies on the desk was written whole, and this is told of it
pub desk_fills : (asked : AskedData) (files : Files) (d : Desk) (input : Heard) (old new : Option (List ℕ)) (told : ToldData) → OpensDesk asked files d
    → OfPage files d (λ p. FillsPage d.ask p input old new told.refused told.summary.unsure told.text) → Fills asked files input old new told
desk_fills asked files d input old new told opens w =
    told_one files (λ other. (read : SheetRead) × Opens asked files read × FillsPage d.ask (page_of asked read) input old new told.refused told.summary.unsure told.text)
    (λ other. (read : SheetRead) × Opens asked files read × FillsPage asked.ask (page_of asked read) input old new told.refused told.summary.unsure told.text)
    (λ other h. (h.0, h.1, subst (λ (a : Bool). FillsPage a (page_of asked h.0) input old new told.refused told.summary.unsure told.text) opens.1 h.2))
    (page_opened asked files d (λ p. FillsPage d.ask p input old new told.refused told.summary.unsure told.text) opens w)

-- ---- why a sheet was not filled

-- the status and the line of a sheet that was not filled are those of the reason
module _ (files : Files) (d : Desk) (Unwritten Failed : Type 0) (input : Heard) (old new : Option (List ℕ)) (status : ℕ) (Said Says : List ℕ → Type 0) (says : (line : List ℕ) → Said line → Says line) where
  pub desk_fails : (why : Unfilled) → (why ≡ unfilled.Unwritten → Unwritten) → (why ≡ unfilled.Unread → Failed) → OfPage files d (λ p. EndsDesk d.ask p input old new (Err why)) → TellsUnfilled (string_bytes d.file) why status Said
      → FailsDesk status files d Unwritten Failed input old new Says
  desk_fails unfilled.Unwritten unwritten unread ends told = inl (told.0, unwritten refl, ends, says _ told.1)
  desk_fails unfilled.Unread unwritten unread ends (inl told) = inr (inl (told.0, unread refl, ends, says _ told.1))
  desk_fails unfilled.Unread unwritten unread ends (inr told) = inr (inr (told.0, ends, says _ told.1))
  desk_fails unfilled.NoMemory unwritten unread ends told = inr (inr (told.0, ends, says _ told.1))

pub fails_status : (status : ℕ) (files : Files) (d : Desk) (Unwritten Failed : Type 0) (input : Heard) (old new : Option (List ℕ)) (Said : List ℕ → Type 0) → FailsDesk status files d Unwritten Failed input old new Said
    → (status ≡ 4) ⊎ (status ≡ 6)
fails_status status files d Unwritten Failed input old new Said (inl four) = inl four.0
fails_status status files d Unwritten Failed input old new Said (inr (inl again)) = inl again.0
fails_status status files d Unwritten Failed input old new Said (inr (inr six)) = inr six.0

pub none_few : (status : ℕ) → (status ≡ 4) ⊎ (status ≡ 6) → status ≤ 1 → ⊥
none_few status (inl four) few = omega (arith, four, few)
none_few status (inr six) few = omega (arith, six, few)

pub none_many : (status : ℕ) → (status ≡ 4) ⊎ (status ≡ 6) → status ≤ 6
none_many status (inl four) = omega (arith, four)
none_many status (inr six) = omega (arith, six)

-- the status 4 is that of a write or of a read
pub fails_fault : (status : ℕ) (files : Files) (d : Desk) (Unwritten Failed : Type 0) (input : Heard) (old new : Option (List ℕ)) (Said : List ℕ → Type 0) → FailsDesk status files d Unwritten Failed input old new Said
    → status ≡ 4 → Unwritten ⊎ Failed
fails_fault status files d Unwritten Failed input old new Said (inl wrote) four = inl wrote.1
fails_fault status files d Unwritten Failed input old new Said (inr (inl again)) four = inr again.1
fails_fault status files d Unwritten Failed input old new Said (inr (inr six)) four = absurd (omega (arith, six.0, four))

pub same_reason : {A : Type 0} (x y : Unfilled) → (let r : Result A Unfilled = Err x in r ≡ Err y) → x ≡ y
same_reason x y e = cc

pub unwritten_halt : (h : Halt) (failed : Bool) → unfilled_by h failed ≡ unfilled.Unwritten → h ≡ halt.Fault
unwritten_halt halt.Fault failed is = refl
unwritten_halt halt.NoMemory true is = cc
unwritten_halt halt.NoMemory false is = cc

pub unread_failed : (h : Halt) (failed : Bool) → unfilled_by h failed ≡ unfilled.Unread → failed ≡ true
unread_failed halt.Fault failed is = cc
unread_failed halt.NoMemory true is = refl
unread_failed halt.NoMemory false is = cc

-- ---- after a dialogue

module _ (ask : Bool) (p : PageData) (input : Heard) (typed : List Example) (old new : Option (List ℕ)) (are : AreTyped ask p.over p.typed input typed) where
  pub halted_after : (h : Halt) (failed : Bool) → EndsPage old new (with_typed p typed) (Err h) → EndsDesk ask p input old new (Err (unfilled_by h failed))
  halted_after halt.Fault failed w = (typed, are, w)
  halted_after halt.NoMemory true w = inr (typed, are, w)
  halted_after halt.NoMemory false w = inr (typed, are, w)

-- the same file among the same files
pub told_same : (files mid : Files) (name other bytes : List ℕ) → mid ≡ files → other ≡ name → IsTold files name bytes → IsTold mid other bytes
told_same files mid name other bytes same named told =
    subst (λ (f : Files). IsTold f other bytes) (sym same) (subst (λ (n : List ℕ). IsTold files n bytes) (sym named) told)

pub there_same : (files mid : Files) (name other : List ℕ) (most : ℕ) → mid ≡ files → other ≡ name → IsThere files name most → IsThere mid other most
there_same files mid name other most same named there =
    subst (λ (f : Files). IsThere f other most) (sym same) (subst (λ (n : List ℕ). IsThere files n most) (sym named) there)

-- how the filling of the sheet on the desk ends, by how the writing of it ends after the dialogue
pub asked_ends : (files : Files) (d e : Desk) (input : Heard) (old new : Option (List ℕ)) (r : Result ToldData Halt) (u : Result ToldData Unfilled)
    → ((p : PageData) → AreTyped d.ask p.over p.typed input e.typed → EndsPage old new (with_typed p e.typed) r → EndsDesk d.ask p input old new u)
    → IsThere files (string_bytes d.file) LAST_PLACE
    → ((bytes : List ℕ) → IsTold files (string_bytes d.file) bytes → IsReady bytes d → IsAsked bytes d.ask d e input)
    → ((bytes : List ℕ) → IsTold files (string_bytes d.file) bytes → IsReady bytes e → EndsPage old new (page_data bytes e) r)
    → OfPage files d (λ p. EndsDesk d.ask p input old new u)
asked_ends None d e input old new r u step there asked ends = tt
asked_ends (Some held) d e input old new r u step there asked ends = λ ready.
    let bytes : List ℕ = bytes_in held (string_bytes d.file) in
    let same : bytes ≡ there.0 = ap (λ (o : Option (List ℕ)). unwrap_or o []) there.1 in
    let told : held (string_bytes d.file) ≡ Some bytes = there.1 ∙ ap Some (sym same) in
    let a : IsAsked bytes d.ask d e input = asked bytes told ready in
    step (page_data bytes d) a.2 (subst (λ (p : PageData). EndsPage old new p r) a.1 (ends bytes told a.0))

-- the same words
pub ends_same : (a b : AskedData) (files : Files) (input : Heard) (status : ℕ) (before now : Counts) (old new : Option (List ℕ)) (held kept : StoreAt) (Unwritten : Type 0) (first last : Option (List ℕ)) (m n : ℕ)
    → a ≡ b → EndsFilled a files input status before now old new held kept Unwritten (SaysAfter a.ask first last m n) → EndsFilled b files input status before now old new held kept Unwritten (SaysAfter b.ask first last m n)
ends_same a b files input status before now old new held kept Unwritten first last m n same ends =
    subst (λ (x : AskedData). EndsFilled x files input status before now old new held kept Unwritten (SaysAfter x.ask first last m n)) same ends
