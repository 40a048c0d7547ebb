-- Texts of records, written or held back.
use Rattle.std.proofs.Common.{◌≡◌, ℕ, ◌+◌, ◌<◌, ◌≤◌, List, [], ◌∷◌, ◌++◌, length, take, Option, None, Some, refl, sym, ap, subst, ◌∙◌, arith, append_assoc, append-nil, length-append}
use Rattle.std.proofs.Math.Seq.{take-append_seam, take-append-add, get_or-append_seam}
use Rattle.std.proofs.lemmas.Option.{slice_get-get_or}
use Rattle.std.specs.Prelude.{slice_get, get_or, ⊤}
use Rattle.std.specs.List.{AllZip}
use Rattle.std.specs.Io.KnownBytes.{Appends}
use Rattle.std.proofs.KnownBytes.{Appends-trans, Appends-nil}
use Rattle.fill_edge.specs.Outside.{AppendsPart, Rose}
use Rattle.fill_stream.specs.Records.{IsDone, Rows, Took}
use Rattle.fill_stream.specs.Filters.{Filtered, Held, Puts, joined}
use Rattle.fill_stream.specs.declared.filter.Ending.TheVariants as ending

-- nothing is held back
pub held_all : (old new : Option (List ℕ)) (buffer now : List ℕ) → Appends old new buffer → now ≡ [] → Held old new now buffer
held_all old new buffer now grown empty = (buffer, grown, ap (λ (b : List ℕ). buffer ++ b) empty ∙ append-nil buffer)

-- nothing was written
pub held_none : (old : Option (List ℕ)) (buffer : List ℕ) → Held old old buffer buffer
held_none old buffer = ([], Appends-nil old, refl)

held_put : (old now : Option (List ℕ)) (buffer more text whole : List ℕ) → Held old now buffer whole → more ≡ buffer ++ text → Held old now more (whole ++ text)
held_put old now buffer more text whole h put =
    (h.0, h.1, ap (λ (b : List ℕ). h.0 ++ b) put ∙ sym (append_assoc h.0 buffer text) ∙ ap (λ (b : List ℕ). b ++ text) h.2)

held_spill : (old now new : Option (List ℕ)) (buffer less whole : List ℕ) → Held old now buffer whole → Held now new less buffer → Held old new less whole
held_spill old now new buffer less whole h k =
    (h.0 ++ k.0, Appends-trans old now new h.0 k.0 h.1 k.1, append_assoc h.0 k.0 less ∙ ap (λ (b : List ℕ). h.0 ++ b) k.2 ∙ h.2)

pub held_part : (old now new : Option (List ℕ)) (buffer whole : List ℕ) → Held old now buffer whole → AppendsPart now new buffer → AppendsPart old new whole
held_part old now new buffer whole h part =
    let size : length whole ≡ length h.0 + length buffer = ap length (sym h.2) ∙ length-append h.0 buffer in
    let front : take (length h.0 + part.0) whole ≡ h.0 ++ take part.0 buffer = ap (take (length h.0 + part.0)) (sym h.2) ∙ take-append-add h.0 buffer part.0 in
    (length h.0 + part.0, omega (arith, size, part.1), subst (Appends old new) (sym front) (Appends-trans old now new h.0 (take part.0 buffer) h.1 part.2))

joined_push : (texts : List (List ℕ)) (text : List ℕ) → joined (texts ++ text ∷ []) ≡ joined texts ++ text
joined_push [] text = append-nil text
joined_push (t ∷ more) text = ap (λ (b : List ℕ). t ++ b) (joined_push more text) ∙ sym (append_assoc t (joined more) text)

zip_push : {A B : Type 0} (P : A → B → Type 0) (xs : List A) (ys : List B) (x : A) (y : B) → AllZip P xs ys → P x y → AllZip P (xs ++ x ∷ []) (ys ++ y ∷ [])
zip_push P [] [] x y h k = (k, tt)
zip_push P [] (b ∷ ys) x y h k = absurd h
zip_push P (a ∷ xs) [] x y h k = absurd h
zip_push P (a ∷ xs) (b ∷ ys) x y h k = (h.0, zip_push P xs ys x y h.1 k)

module _ (Makes : List (List ℕ) → List ℕ → Type 0) (Refuses : List (List ℕ) → ℕ → Type 0) where
  -- the first n records are done, and the others are left; the texts of what is done were written or stand in the buffer
  pub record Done (n : ℕ) (rows more : Rows) (old new : Option (List ℕ)) (before now : List ℕ) : Type 0 where
    pub done : Rows
    pub texts : List (List ℕ)
    pub all : rows ≡ done ++ more
    pub count : length done ≡ n
    pub made : AllZip Makes done texts
    pub held : Held old new now (before ++ joined texts)

  -- the same where records are known
  abbrev pub Progress : ℕ → Option Rows → Option Rows → Option (List ℕ) → Option (List ℕ) → List ℕ → List ℕ → Type 0
  Progress n None left old new before now = ⊤
  Progress n (Some rows) left old new before now = (more : Rows) × (left ≡ Some more) × Done n rows more old new before now

  pub progress_start : (first : Option Rows) (old : Option (List ℕ)) (buffer : List ℕ) → Progress 0 first first old old buffer buffer
  progress_start None old buffer = tt
  progress_start (Some rows) old buffer =
      (rows, refl, record { done = []; texts = []; all = refl; count = refl; made = tt; held = subst (Held old old buffer) (sym (append-nil buffer)) (held_none old buffer) })

  -- one more record is read, its text put, and the buffer written or not
  pub progress_more : (n : ℕ) (first left left2 : Option Rows) (fields : List (List ℕ)) (old mid new : Option (List ℕ)) (before now put after : List ℕ)
      → Progress n first left old mid before now → Took left left2 fields → Puts (Makes fields) now put → Held mid new after put
      → Progress (n + 1) first left2 old new before after
  progress_more n None left left2 fields old mid new before now put after here took puts spilled = tt
  progress_more n (Some rows) left left2 fields old mid new before now put after here took puts spilled =
      let read : Took (Some here.0) left2 fields = subst (λ (l : Option Rows). Took l left2 fields) here.1 took in
      let d = here.2 in
      let whole : (before ++ joined d.texts) ++ puts.0 ≡ before ++ joined (d.texts ++ puts.0 ∷ []) =
      append_assoc before (joined d.texts) puts.0 ∙ ap (λ (b : List ℕ). before ++ b) (sym (joined_push d.texts puts.0)) in (
        read.0,
        read.2,
        record {
          done = d.done ++ fields ∷ [];
          texts = d.texts ++ puts.0 ∷ [];
          all = d.all ∙ ap (λ (r : Rows). d.done ++ r) read.1 ∙ sym (append_assoc d.done (fields ∷ []) read.0);
          count = length-append d.done (fields ∷ []) ∙ ap (λ m. m + 1) d.count;
          made = zip_push Makes d.done d.texts fields puts.0 d.made puts.1;
          held = subst (Held old new after) whole (held_spill old mid new put after _ (held_put old mid now put puts.0 _ d.held puts.2) spilled);
        },
      )

  -- at any time the texts of the first records are written or held
  pub progress_some : (n : ℕ) (first left : Option Rows) (old new : Option (List ℕ)) (before now : List ℕ) → Progress n first left old new before now
      → Filtered Makes Refuses ending.Broken first old new before now
  progress_some n None left old new before now here = tt
  progress_some n (Some rows) left old new before now here =
      let d = here.2 in
      let front : take (length d.done) rows ≡ d.done = ap (take (length d.done)) d.all ∙ take-append_seam d.done here.0 in
      (length d.done, d.texts, subst (λ (r : Rows). AllZip Makes r d.texts) (sym front) d.made, d.held)

  pub progress_kept : (n : ℕ) (first left : Option Rows) (old new : Option (List ℕ)) (before now after : List ℕ) → Progress n first left old new before now → after ≡ now
      → Filtered Makes Refuses ending.Broken first old new before after
  progress_kept n first left old new before now after here kept = subst (λ (b : List ℕ). Filtered Makes Refuses ending.Broken first old new before b) (sym kept) (progress_some n first left old new before now here)

  -- where no record is left, all texts are
  pub progress_end : (n : ℕ) (first left : Option Rows) (old new : Option (List ℕ)) (before now : List ℕ) → Progress n first left old new before now → IsDone left
      → Filtered Makes Refuses ending.All first old new before now
  progress_end n None left old new before now here done = tt
  progress_end n (Some rows) left old new before now here done =
      let d = here.2 in
      let none : here.0 ≡ [] = subst IsDone here.1 done in
      let whole : rows ≡ d.done = d.all ∙ ap (λ (r : Rows). d.done ++ r) none ∙ append-nil d.done in
      (d.texts, subst (λ (r : Rows). AllZip Makes r d.texts) (sym whole) d.made, d.held)

  -- the record that was read last is refused
  pub progress_refused : (n column : ℕ) (first left left2 : Option Rows) (fields : List (List ℕ)) (old new : Option (List ℕ)) (before now after : List ℕ)
      → Progress n first left old new before now → Took left left2 fields → Refuses fields column → after ≡ now
      → Filtered Makes Refuses (ending.Refused n column) first old new before after
  progress_refused n column None left left2 fields old new before now after here took refused kept = tt
  progress_refused n column (Some rows) left left2 fields old new before now after here took refused kept =
      let read : Took (Some here.0) left2 fields = subst (λ (l : Option Rows). Took l left2 fields) here.1 took in
      let d = here.2 in
      let split : rows ≡ d.done ++ fields ∷ read.0 = d.all ∙ ap (λ (r : Rows). d.done ++ r) read.1 in
      let size : length rows ≡ length d.done + length (fields ∷ read.0) = ap length split ∙ length-append d.done (fields ∷ read.0) in
      let lt : length d.done < length rows = omega (arith, size) in
      let place : slice_get rows (length d.done) ≡ Some fields =
      slice_get-get_or rows (length d.done) fields lt ∙ ap Some (ap (λ (r : Rows). get_or r (length d.done) fields) split ∙ get_or-append_seam d.done fields read.0 fields) in
      let front : take (length d.done) rows ≡ d.done = ap (take (length d.done)) split ∙ take-append_seam d.done (fields ∷ read.0) in
      (fields, d.texts, rw d.count at place, refused, subst (λ (r : Rows). AllZip Makes r d.texts) (sym (rw d.count at front)) d.made, rw kept d.held)

  -- a part of the buffer was written, in which the text of the record that was read last stands
  pub progress_part : (n : ℕ) (first left left2 : Option Rows) (fields : List (List ℕ)) (old mid new : Option (List ℕ)) (before now put after : List ℕ)
      → Progress n first left old mid before now → Took left left2 fields → Puts (Makes fields) now put → AppendsPart mid new put
      → Filtered Makes Refuses ending.WriteFault first old new before after
  progress_part n None left left2 fields old mid new before now put after here took puts part = tt
  progress_part n (Some rows) left left2 fields old mid new before now put after here took puts part =
      let more = progress_more n (Some rows) left left2 fields old mid mid before now put put here took puts (held_none mid put) in
      let some = progress_some (n + 1) (Some rows) left2 old mid before put more in
      (some.0, some.1, some.2, held_part old mid new put _ some.3 part)

-- a count that rose later has risen since
pub rose_later : (before mid now : ℕ) → before ≤ mid → Rose mid now → Rose before now
rose_later before mid now le rose = grind arith
