-- From the parts of a pass to what a run has written.
use Rattle.std.proofs.Common.{◌≡◌, ℕ, ◌+◌, ◌≤◌, List, [], ◌∷◌, ◌++◌, length, take, Bool, true, false, inl, inr, Option, None, Some, Ok, refl, sym, ap, subst, ◌∙◌, arith, append_assoc, add-one}
use Rattle.std.specs.Prelude.{slice_get, option_map}
use Rattle.std.specs.List.{AllZip, flat_map}
use Rattle.std.proofs.Math.Seq.{take-length}
use Rattle.std.specs.Io.KnownBytes.{Appends, IsAtEnd, Keeps, prepend_known}
use Rattle.std.proofs.KnownBytes.{Appends-trans, Appends-nil}
use Rattle.fill_edge.specs.Outside.{Rose}
use Rattle.fill_records.specs.Records.{records_of}
use Rattle.fill_records.specs.Texts.{bad_column}
use Rattle.fill_sheet.specs.Report.{record_text}
use Rattle.fill_sheet.specs.Sheet.{headers}
use Rattle.std.specs.Option.{is_some}
use Rattle.fill_stream.specs.Records.{Rows}
use Rattle.fill_stream.specs.Filters.{Filtered, Held, joined}
use Rattle.fill_stream.specs.Fronts.{IsMarked}
use Rattle.fill_stream.specs.declared.filter.Ending.{Ending}
use Rattle.fill_stream.specs.declared.filter.Ending.TheVariants as ending
use Rattle.fill_stream.proofs.Filterings.{held_part, rose_later}
use Rattle.fillcsv_rules.specs.declared.rule.Names.{Names}
use Rattle.fillcsv_rule_runs.specs.Filled.{AreMade, IsFilled, MakesText, named_head}
use Rattle.fillcsv_rule_runs.specs.Loaded.{LoadedData}
use Rattle.fillcsv_rule_runs.specs.Passing.{Begins, BeginsBy, EndsPass, FailsFirst, Finishes, PassWrites, after, mark_text, status_after}
use Rattle.fillcsv_rule_runs.specs.Places.{PlacesData, places_in, placed}
use Rattle.fillcsv_rule_runs.specs.Run.{EndWrites, EndsSink, EndsSource, IsTextOf, RunWrites, Writes, WritesPart, WritesSome, code_of, mark_of}
use Rattle.fillcsv_rule_runs.specs.declared.pass.How.{How}
use Rattle.fillcsv_rule_runs.specs.declared.pass.How.TheVariants as how
use Rattle.fillcsv_rule_runs.specs.declared.status.Status.{Status}
use Rattle.fillcsv_rule_runs.specs.declared.status.Status.TheVariants as status

-- the records behind texts that were made
record Made (r : LoadedData) (places : PlacesData) (rows : Rows) (texts : List (List ℕ)) : Type 0 where
  made : Rows
  filled : AllZip (IsFilled r places) rows made
  text : joined texts ≡ flat_map record_text made

made_of : (r : LoadedData) (places : PlacesData) (rows : Rows) (texts : List (List ℕ)) → AllZip (MakesText r places) rows texts → Made r places rows texts
made_of r places [] [] all = record { made = []; filled = tt; text = refl }
made_of r places [] (t ∷ texts) all = absurd all
made_of r places (fields ∷ rows) [] all = absurd all
made_of r places (fields ∷ rows) (t ∷ texts) all =
    let one = all.0 in
    let more = made_of r places rows texts all.1 in
    record {
      made = one.0 ∷ more.made;
      filled = (one.1, more.filled);
      text = ap (λ (x : List ℕ). x ++ joined texts) one.2 ∙ ap (λ (x : List ℕ). record_text one.0 ++ x) more.text;
    }

-- the columns have their places, where the pass begins
placed_by : (r : LoadedData) (names : Option Names) → r.rule.names ≡ names → (mark : List ℕ) (rows : Rows) (rest : Option Rows) (places : PlacesData) (buffer : List ℕ)
    → BeginsBy names r.rule.inputs r.rule.output mark (Some rows) rest places buffer → places_in r.rule rows ≡ Ok places
placed_by r None named mark rows rest places buffer begun = ap (λ (o : Option Names). placed o r.rule.inputs r.rule.output rows) named ∙ ap Ok (sym begun.1)
placed_by r (Some names) named mark rows rest places buffer begun =
    ap (λ (o : Option Names). placed o r.rule.inputs r.rule.output rows) named ∙ ap (λ (l : Rows). placed (Some names) r.rule.inputs r.rule.output l) begun.2 ∙ begun.4

-- the text of the first records, after a beginning
text_by : (r : LoadedData) (names : Option Names) → r.rule.names ≡ names → (mark : List ℕ) (rows rest : Rows) (places : PlacesData) (buffer : List ℕ) (n : ℕ) (texts : List (List ℕ))
    → BeginsBy names r.rule.inputs r.rule.output mark (Some rows) (Some rest) places buffer → AllZip (MakesText r places) (take n rest) texts
    → IsTextOf r mark rows (n + headers (is_some names)) (buffer ++ joined texts)
text_by r None named mark rows rest places buffer n texts begun all =
    let m = made_of r places (take n rest) texts all in
    let same : rest ≡ rows = (let is : Some rest ≡ Some rows = begun.0 in cc) in
    let count : n + 0 ≡ n = omega arith in
    record {
      places = places;
      placed = placed_by r None named mark rows (Some rest) places buffer begun;
      made = m.made;
      makes = subst (λ (o : Option Names). AreMade r places o (take (n + 0) rows) m.made) (sym named)
          (subst (λ (l : Rows). AllZip (IsFilled r places) l m.made) (ap (take n) same ∙ ap (λ k. take k rows) (sym count)) m.filled);
      whole = ap (λ (b : List ℕ). b ++ joined texts) begun.2 ∙ ap (λ (b : List ℕ). mark ++ b) m.text;
    }
text_by r (Some names) named mark rows rest places buffer n texts begun all =
    let header = begun.0 in
    let m = made_of r places (take n rest) texts all in
    let same : rest ≡ begun.1 = (let is : Some rest ≡ Some begun.1 = begun.3 in cc) in
    let split : rows ≡ header ∷ rest = begun.2 ∙ ap (λ (l : Rows). header ∷ l) (sym same) in
    let front : take (n + 1) rows ≡ header ∷ take n rest = ap (take (n + 1)) split ∙ ap (λ k. take k (header ∷ rest)) (add-one n) in
    record {
      places = places;
      placed = placed_by r (Some names) named mark rows (Some rest) places buffer begun;
      made = named_head names places header ∷ m.made;
      makes = subst (λ (o : Option Names). AreMade r places o (take (n + 1) rows) (named_head names places header ∷ m.made)) (sym named)
          (subst (λ (l : Rows). AreMade r places (Some names) l (named_head names places header ∷ m.made)) (sym front) (refl, m.filled));
      whole = ap (λ (b : List ℕ). b ++ joined texts) begun.5 ∙ append_assoc mark (record_text (named_head names places header)) (joined texts)
          ∙ ap (λ (b : List ℕ). mark ++ (record_text (named_head names places header) ++ b)) m.text;
    }

-- which records follow the header
rows_by : (r : LoadedData) (names : Option Names) (mark : List ℕ) (rows : Rows) (rest : Option Rows) (places : PlacesData) (buffer : List ℕ)
    → BeginsBy names r.rule.inputs r.rule.output mark (Some rows) rest places buffer → (more : Rows) × (rest ≡ Some more) × (length rows ≡ length more + headers (is_some names))
    × ((n : ℕ) → slice_get rows (n + headers (is_some names)) ≡ slice_get more n)
rows_by r None mark rows rest places buffer begun =
    (rows, begun.0, omega arith, λ n. let count : n + 0 ≡ n = omega arith in ap (slice_get rows) count)
rows_by r (Some names) mark rows rest places buffer begun =
    let size : length rows ≡ length (begun.0 ∷ begun.1) = ap length begun.2 in (
      begun.1,
      begun.3,
      omega (arith, size),
      λ n. ap (λ (l : Rows). slice_get l (n + 1)) begun.2 ∙ ap (slice_get (begun.0 ∷ begun.1)) (add-one n),
    )

held_done : (old mid new : Option (List ℕ)) (buffer whole : List ℕ) → Held old mid buffer whole → Appends mid new buffer → Appends old new whole
held_done old mid new buffer whole h rest = subst (Appends old new) h.2 (Appends-trans old mid new h.0 buffer h.1 rest)

module _ (r : LoadedData) (mark : List ℕ) (places : PlacesData) (buffer now : List ℕ) (old mid new : Option (List ℕ)) where
  abbrev makes : List (List ℕ) → List ℕ → Type 0
  makes fields text = MakesText r places fields text

  abbrev refuses : List (List ℕ) → ℕ → Type 0
  refuses fields column = bad_column places.sources fields ≡ Some column

  -- a part of what was made was written while the records were read
  fault_known : (names : Option Names) → r.rule.names ≡ names → (rows : Rows) (rest : Option Rows) → BeginsBy names r.rule.inputs r.rule.output mark (Some rows) rest places buffer
      → Filtered makes refuses ending.WriteFault rest old new buffer now → WritesPart r mark rows old new
  fault_known names named rows None begun all = let rest = rows_by r names mark rows None places buffer begun in let bad : ◌≡◌ {A = Option Rows} None (Some rest.0) = rest.1 in cc
  fault_known names named rows (Some rest) begun all =
      (all.0 + headers (is_some names), buffer ++ joined all.1, text_by r names named mark rows rest places buffer all.0 all.1 begun all.2, all.3)

  pub fault_written : (rows rest : Option Rows) → Begins r.rule mark rows rest places buffer → Filtered makes refuses ending.WriteFault rest old new buffer now
      → PassWrites r how.WriteFault mark rows old new
  fault_written None rest begun all = tt
  fault_written (Some rows) rest begun all = fault_known r.rule.names refl rows rest begun all

  -- what is held is written at last, whole or in part
  finish_known : (names : Option Names) → r.rule.names ≡ names → (e : Ending) (h : How) (rows : Rows) (rest : Rows) (before after_faults : ℕ) → (e ≡ ending.WriteFault → ⊥)
      → BeginsBy names r.rule.inputs r.rule.output mark (Some rows) (Some rest) places buffer
      → Filtered makes refuses e (Some rest) old mid buffer now → Finishes e (is_some names) h mid new now before after_faults
      → PassWrites r h mark (Some rows) old new
  finish_known names named ending.WriteFault h rows rest before later none begun all fin = absurd (none refl)
  finish_known names named ending.All h rows rest before later none begun all fin =
      let own = rows_by r names mark rows (Some rest) places buffer begun in
      let same : own.0 ≡ rest = (let is : Some rest ≡ Some own.0 = own.1 in cc) in
      let size : length rows ≡ length rest + headers (is_some names) = subst (λ (l : Rows). length rows ≡ length l + headers (is_some names)) same own.2 in
      let made = subst (λ (l : Rows). AllZip makes l all.0) (sym (take-length rest)) all.1 in
      let text = text_by r names named mark rows rest places buffer (length rest) all.0 begun made in
      elim fin [
        | inl part ↦ subst (λ (k : How). PassWrites r k mark (Some rows) old new) (sym part.0) (length rest + headers (is_some names), buffer ++ joined all.0, text, held_part old mid new now _ all.2 part.1)
        | inr done ↦ subst (λ (k : How). PassWrites r k mark (Some rows) old new) (sym done.0)
            (buffer ++ joined all.0, subst (λ k. IsTextOf r mark rows k (buffer ++ joined all.0)) (sym size) text, held_done old mid new now _ all.2 done.1)
      ]
  finish_known names named ending.Broken h rows rest before later none begun all fin =
      let text = text_by r names named mark rows rest places buffer all.0 all.1 begun all.2 in
      elim fin [
        | inl part ↦ subst (λ (k : How). PassWrites r k mark (Some rows) old new) (sym part.0) (all.0 + headers (is_some names), buffer ++ joined all.1, text, held_part old mid new now _ all.3 part.1)
        | inr done ↦ subst (λ (k : How). PassWrites r k mark (Some rows) old new) (sym done.0)
            (inr (all.0 + headers (is_some names), (buffer ++ joined all.1, text, held_done old mid new now _ all.3 done.1)))
      ]
  finish_known names named (ending.Refused n column) h rows rest before later none begun all fin =
      let own = rows_by r names mark rows (Some rest) places buffer begun in
      let same : own.0 ≡ rest = (let is : Some rest ≡ Some own.0 = own.1 in cc) in
      let text = text_by r names named mark rows rest places buffer n all.1 begun all.4 in
      let place : slice_get rows (n + headers (is_some names)) ≡ Some all.0 = own.3 n ∙ ap (λ (l : Rows). slice_get l n) same ∙ all.2 in
      elim fin [
        | inl part ↦ subst (λ (k : How). PassWrites r k mark (Some rows) old new) (sym part.0) (n + headers (is_some names), buffer ++ joined all.1, text, held_part old mid new now _ all.5 part.1)
        | inr done ↦ subst (λ (k : How). PassWrites r k mark (Some rows) old new) (sym done.0)
            ((places, all.0, placed_by r names named mark rows (Some rest) places buffer begun, place, all.3), (buffer ++ joined all.1, text, held_done old mid new now _ all.5 done.1))
      ]

  pub finish_written : (e : Ending) (headed : Bool) (h : How) (rows rest : Option Rows) (before later : ℕ) → (e ≡ ending.WriteFault → ⊥) → headed ≡ is_some r.rule.names
      → Begins r.rule mark rows rest places buffer → Filtered makes refuses e rest old mid buffer now → Finishes e headed h mid new now before later
      → PassWrites r h mark rows old new
  finish_written e headed h None rest before later none is begun all fin = tt
  finish_written e headed h (Some rows) rest before later none is begun all fin =
      let own = rows_by r r.rule.names mark rows rest places buffer begun in
      finish_known r.rule.names refl e h rows own.0 before later none
      (subst (λ (o : Option Rows). BeginsBy r.rule.names r.rule.inputs r.rule.output mark (Some rows) o places buffer) own.1 begun)
      (subst (λ (o : Option Rows). Filtered makes refuses e o old mid buffer now) own.1 all)
      (subst (λ (b : Bool). Finishes e b h mid new now before later) is fin)

-- a pass that ends with a fault has one of its own, where the records were filtered without one
pub finish_fault : (e : Ending) (headed : Bool) (h : How) (old new : Option (List ℕ)) (buffer : List ℕ) (first before now : ℕ) → (e ≡ ending.WriteFault → ⊥) → first ≤ before
    → Finishes e headed h old new buffer before now → h ≡ how.WriteFault → Rose first now
finish_fault e headed h old new buffer first before now none later fin is =
    elim fin [
      | inl part ↦ rose_later first before now later part.2
      | inr done ↦ absurd (no_fault e headed none (sym done.0 ∙ is))
    ]
  where
    no_fault : (e : Ending) (headed : Bool) → (e ≡ ending.WriteFault → ⊥) → after e headed ≡ how.WriteFault → ⊥
    no_fault ending.All headed none is = cc
    no_fault (ending.Refused n column) headed none is = cc
    no_fault ending.WriteFault headed none is = none refl
    no_fault ending.Broken headed none is = cc

-- nothing was written where there are no places
pub fails_written : (r : LoadedData) (h : How) (mark : List ℕ) (rows : Option Rows) (old : Option (List ℕ)) → FailsFirst r.rule rows h → PassWrites r h mark rows old old
fails_written r h mark None old fails = tt
fails_written r (how.Missing name) mark (Some rows) old fails = (fails, Appends-nil old)
fails_written r (how.Ambiguous name) mark (Some rows) old fails = (fails, Appends-nil old)
fails_written r how.Broken mark (Some rows) old fails = inl (Appends-nil old)
fails_written r how.All mark (Some rows) old fails = absurd fails
fails_written r (how.NotText n column) mark (Some rows) old fails = absurd fails
fails_written r how.WriteFault mark (Some rows) old fails = absurd fails

-- such an end is no fault
pub fails_no_fault : (r : LoadedData) (h : How) (rows : Option Rows) → FailsFirst r.rule rows h → h ≡ how.WriteFault → ⊥
fails_no_fault r (how.Missing name) rows fails is = cc
fails_no_fault r (how.Ambiguous name) rows fails is = cc
fails_no_fault r how.Broken rows fails is = cc
fails_no_fault r how.All rows fails is = cc
fails_no_fault r (how.NotText n column) rows fails is = cc
fails_no_fault r how.WriteFault None fails is = fails
fails_no_fault r how.WriteFault (Some rows) fails is = fails

all_some : (r : LoadedData) (mark : List ℕ) (rows : Rows) (old new : Option (List ℕ)) → Writes r mark rows (length rows) old new → WritesSome r mark rows old new
all_some r mark rows old new w = inr (length rows, w)

status_known : (r : LoadedData) (h : How) (failed ended : Bool) (mark : List ℕ) (rows : Rows) (old new : Option (List ℕ)) → EndsPass r h mark rows old new
    → EndWrites r (status_after h failed ended) mark rows old new
status_known r (how.Missing name) failed ended mark rows old new w = w
status_known r (how.Ambiguous name) failed ended mark rows old new w = w
status_known r (how.NotText n column) failed ended mark rows old new w = w
status_known r how.WriteFault failed ended mark rows old new w = w
status_known r how.All true ended mark rows old new w = all_some r mark rows old new w
status_known r how.All false true mark rows old new w = w
status_known r how.All false false mark rows old new w = all_some r mark rows old new w
status_known r how.Broken true ended mark rows old new w = w
status_known r how.Broken false ended mark rows old new w = w

-- what a pass has written of a stream's records is what the run has
pub status_writes : (r : LoadedData) (h : How) (failed ended marked : Bool) (left : Option (List ℕ)) (old new : Option (List ℕ)) → IsMarked left marked
    → PassWrites r h (mark_text marked) (option_map records_of left) old new → RunWrites r (status_after h failed ended) left old new
status_writes r h failed ended marked None old new is w = tt
status_writes r h failed ended marked (Some bytes) old new is w =
    let same : mark_text marked ≡ mark_of bytes = ap mark_text is in
    subst (λ (m : List ℕ). EndWrites r (status_after h failed ended) m (records_of bytes) old new) same (status_known r h failed ended (mark_text marked) (records_of bytes) old new w)

-- what is known of a stream is known of it with its first bytes read ahead
pub run_kept : (r : LoadedData) (how : Status) (left fronted old new : Option (List ℕ)) → Keeps left fronted → RunWrites r how fronted old new → RunWrites r how left old new
run_kept r how None fronted old new kept w = tt
run_kept r how (Some bytes) None old new kept w = absurd kept
run_kept r how (Some bytes) (Some same) old new kept w = subst (λ (b : List ℕ). EndWrites r how (mark_of b) (records_of b) old new) kept w

-- a stream that is at its end with its first bytes is so without them
pub end_behind : (front : List ℕ) (left : Option (List ℕ)) → IsAtEnd (prepend_known front left) → IsAtEnd left
end_behind front None here = tt
end_behind [] (Some xs) here = here
end_behind (x ∷ front) (Some xs) here = cc

-- what a run leaves of its source, by what was noted of it
pub ends_source : (h : How) (failed ended : Bool) (left : Option (List ℕ)) (before now : ℕ) → before ≤ now → (failed ≡ true → Rose before now) → (failed ≡ false → now ≡ before)
    → (ended ≡ true → IsAtEnd left) → EndsSource (status_after h failed ended) left before now
ends_source (how.Missing name) failed ended left before now later rose same at_end = later
ends_source (how.Ambiguous name) failed ended left before now later rose same at_end = later
ends_source (how.NotText n column) failed ended left before now later rose same at_end = later
ends_source how.WriteFault failed ended left before now later rose same at_end = later
ends_source how.All true ended left before now later rose same at_end = rose refl
ends_source how.All false true left before now later rose same at_end = (at_end refl, same refl)
ends_source how.All false false left before now later rose same at_end = same refl
ends_source how.Broken true ended left before now later rose same at_end = rose refl
ends_source how.Broken false ended left before now later rose same at_end = same refl

-- and of its sink
pub ends_sink : (h : How) (failed ended : Bool) (before now : ℕ) → before ≤ now → (h ≡ how.WriteFault → Rose before now) → EndsSink (status_after h failed ended) before now
ends_sink (how.Missing name) failed ended before now later rose = later
ends_sink (how.Ambiguous name) failed ended before now later rose = later
ends_sink (how.NotText n column) failed ended before now later rose = later
ends_sink how.WriteFault failed ended before now later rose = rose refl
ends_sink how.All true ended before now later rose = later
ends_sink how.All false true before now later rose = later
ends_sink how.All false false before now later rose = later
ends_sink how.Broken true ended before now later rose = later
ends_sink how.Broken false ended before now later rose = later

-- only a run that did all has the status 0
pub code_done : (s : Status) → code_of s ≡ 0 → s ≡ status.Done
code_done status.Done is = refl
code_done status.ReadFault is = cc
code_done status.WriteFault is = cc
code_done (status.Missing name) is = cc
code_done (status.Ambiguous name) is = cc
code_done (status.NotText n column) is = cc
code_done status.NoMemory is = cc
