-- What is written of rows, and of one row more.
use Rattle.std.proofs.Common.{◌≡◌, ◌∙◌, ℕ, ◌≤◌, List, [], ◌∷◌, ◌++◌, length, take, All, Option, Result, Ok, Err, Bool, true, false, arith, ap, append_assoc, refl, subst, sym}
use Rattle.std.specs.Prelude.{◌||◌, IsErrAnd, IsErrOf, ⊤}
use Rattle.std.specs.Io.KnownBytes.{Appends}
use Rattle.std.specs.List.{AllZip, list_any}
use Rattle.std.proofs.KnownBytes.{Appends-nil}
use Rattle.std.proofs.lemmas.List.Elements.{All-cons, All-nil}
use Rattle.std.proofs.lemmas.List.{length-append, length-map, map-append, take-append-le, take_all}
use Rattle.fill_edge.specs.Outside.{AppendsPart}
use Rattle.fill_output.specs.declared.halt.Halt.{Halt}
use Rattle.fill_output.specs.declared.halt.Halt.TheVariants as halt
use Rattle.fill_sheet.specs.Report.{record_text}
use Rattle.fill_output.specs.Fields.{Fields}
use Rattle.fill_states.specs.declared.row_state.RowState.{RowState}
use Rattle.fill_output.proofs.Bytes.{appends_more, part_more}
use Rattle.fillcsv_rows.specs.Filled.{is_unsure}
use Rattle.fillcsv_blocks.specs.Blocks.{BlockData}
use Rattle.fillcsv_blocks.specs.Merged.{numbers_of}
use Rattle.fillcsv_blocks.specs.declared.numbered.Numbered.{Numbered}
use Rattle.fillcsv_filling.specs.Rows.{IsMadeIn, IsRow, IsStateIn, Stands, TellsOf, WritesBlock, WritesOf, WritesPartOf, WritesRow}
use Rattle.fillcsv_filling.proofs.Lessons.{all_mid}
use Rattle.fillcsv_filling.specs.Long.{LongData}

zip_push : {B : Type 0} (R : ℕ → B → Type 0) (xs : List ℕ) (ys : List B) (x : ℕ) (y : B) → AllZip R xs ys → R x y → AllZip R (xs ++ x ∷ []) (ys ++ y ∷ [])
zip_push R [] [] x y h r = (r, tt)
zip_push R [] (b ∷ ys) x y h r = absurd h
zip_push R (a ∷ xs) [] x y h r = absurd h
zip_push R (a ∷ xs) (b ∷ ys) x y h r = (h.0, zip_push R xs ys x y h.1 r)

zip_next : {B : Type 0} (R : ℕ → B → Type 0) (rows : List Numbered) (row : Numbered) (ys : List B) (y : B) → AllZip R (numbers_of rows) ys → R row.number y → AllZip R (numbers_of (rows ++ row ∷ [])) (ys ++ y ∷ [])
zip_next R rows row ys y h r =
    subst (λ (l : List ℕ). AllZip R l (ys ++ y ∷ [])) (sym (map-append (λ (it : Numbered). it.number) rows (row ∷ []))) (zip_push R (numbers_of rows) ys row.number y h r)

pub or_false : (b : Bool) → (b || false) ≡ b
or_false true = refl
or_false false = refl

pub or_assoc : (a b c : Bool) → ((a || b) || c) ≡ (a || (b || c))
or_assoc true b c = refl
or_assoc false b c = refl

any_push : (states : List RowState) (state : RowState) → list_any is_unsure (states ++ state ∷ []) ≡ (list_any is_unsure states || is_unsure state)
any_push [] state = or_false (is_unsure state)
any_push (x ∷ states) state = ap (λ b. is_unsure x || b) (any_push states state) ∙ sym (or_assoc (is_unsure x) (list_any is_unsure states) (is_unsure state))

module _ (s : LongData) (block : BlockData) where
  pub tells_none : (before : Bool) → TellsOf s block [] before before
  tells_none before = ([], tt, sym (or_false before))

  pub tells_next : (rows : List Numbered) (row : Numbered) (state : RowState) (before mid now : Bool) → TellsOf s block (numbers_of rows) before mid → IsStateIn s block row.number state
      → now ≡ (mid || is_unsure state) → TellsOf s block (numbers_of (rows ++ row ∷ [])) before now
  tells_next rows row state before mid now told is tells = (
    told.0 ++ state ∷ [],
    zip_next (IsStateIn s block) rows row told.0 state told.1 is,
    tells ∙ ap (λ b. b || is_unsure state) told.2 ∙ or_assoc before (list_any is_unsure told.0) (is_unsure state) ∙ ap (λ b. before || b) (sym (any_push told.0 state)),
  )

  pub writes_none : (old : Option (List ℕ)) → WritesOf s block [] old old
  writes_none old = ([], tt, Appends-nil old)

  pub writes_next : (rows : List Numbered) (row : Numbered) (old mid new : Option (List ℕ)) → WritesOf s block (numbers_of rows) old mid
      → (made : Fields) × IsMadeIn s block row.number made × Appends mid new (record_text made) → WritesOf s block (numbers_of (rows ++ row ∷ [])) old new
  writes_next rows row old mid new before next =
      (before.0 ++ next.0 ∷ [], zip_next (IsMadeIn s block) rows row before.0 next.0 before.1 next.1, appends_more old mid new before.0 next.0 before.2 next.2)

  pub writes_part : (rows : List Numbered) (row : Numbered) (old mid new : Option (List ℕ)) → WritesOf s block (numbers_of rows) old mid
      → (made : Fields) × IsMadeIn s block row.number made × AppendsPart mid new (record_text made) → WritesPartOf s block (numbers_of (rows ++ row ∷ [])) old new
  writes_part rows row old mid new before next =
      (before.0 ++ next.0 ∷ [], zip_next (IsMadeIn s block) rows row before.0 next.0 before.1 next.1, part_more old mid new before.0 next.0 before.2 next.2)

-- the numbers of the first rows
pub first_numbers : (all rows rest : List Numbered) → all ≡ rows ++ rest → numbers_of rows ≡ take (length rows) (numbers_of all)
first_numbers all rows rest whole =
    let size : length (numbers_of rows) ≡ length rows = length-map rows (λ (it : Numbered). it.number) in
    let within : length rows ≤ length (numbers_of rows) = omega (arith, size) in
    let upto : length (numbers_of rows) ≤ length rows = omega (arith, size) in
    sym (ap (λ (l : List Numbered). take (length rows) (numbers_of l)) whole
    ∙ ap (take (length rows)) (map-append (λ (it : Numbered). it.number) rows rest) ∙ take-append-le (length rows) (numbers_of rows) (numbers_of rest) within ∙ take_all (length rows) (numbers_of rows) upto)

pub first_few : (all rows rest : List Numbered) → all ≡ rows ++ rest → length rows ≤ length all
first_few all rows rest whole = omega (arith, ap length whole, length-append rows rest)

few_numbers : (all rows rest : List Numbered) → all ≡ rows ++ rest → length rows ≤ length (numbers_of all)
few_numbers all rows rest whole = omega (arith, first_few all rows rest whole, length-map all (λ (it : Numbered). it.number))

-- the same of one row more
pub next_whole : (all rows rest left : List Numbered) (row : Numbered) → all ≡ rows ++ left → left ≡ row ∷ rest → all ≡ (rows ++ row ∷ []) ++ rest
next_whole all rows rest left row whole next = whole ∙ ap (λ (l : List Numbered). rows ++ l) next ∙ sym (append_assoc rows (row ∷ []) rest)

-- the one error of an answer, in an answer of another kind
pub errs_as : {T U E : Type 0} (r : Result T E) (a b : E) → r ≡ Err a → IsErrOf {T = U} (Err a) b → IsErrOf r b
errs_as {E = E} r a b is other = let same : a ≡ b = cc in subst (λ (e : E). r ≡ Err e) same is

-- a row of a block that stands for a sheet
pub row_stands : (s : LongData) (block : BlockData) (all before after : List Numbered) (row : Numbered) → all ≡ before ++ row ∷ after → Stands s block all → Stands s block (row ∷ [])
row_stands s block all before after row whole stands =
    let is = all_mid (IsRow s) before after row (subst (λ (l : List Numbered). All (IsRow s) l) whole stands.rows) in
    record { long = stands.long; stands = stands.stands; rows = All-cons (IsRow s) row [] is (All-nil (IsRow s)) }

-- the first rows of a block were written
pub block_written : (s : LongData) (block : BlockData) (all rows rest : List Numbered) → all ≡ rows ++ rest → (old new : Option (List ℕ)) → WritesOf s block (numbers_of rows) old new
    → (n : ℕ) × (n ≤ length (numbers_of all)) × WritesOf s block (take n (numbers_of all)) old new
block_written s block all rows rest whole old new wrote =
    (length rows, few_numbers all rows rest whole, subst (λ (l : List ℕ). WritesOf s block l old new) (first_numbers all rows rest whole) wrote)

-- the first rows of a block were written, and the next one was not
pub block_halted : (s : LongData) (block : BlockData) (all before after : List Numbered) (row : Numbered) → all ≡ before ++ row ∷ after → (first now : Bool) (old mid new : Option (List ℕ))
    → WritesOf s block (numbers_of before) old mid → (why : Halt) → WritesRow s block row.number mid new (Err why) → WritesBlock s block (numbers_of all) first now old new (Err why)
block_halted s block all before after row whole first now old mid new wrote halt.Fault next =
    let rows = before ++ row ∷ [] in
    let both = whole ∙ sym (append_assoc before (row ∷ []) after) in (
      length rows,
      few_numbers all rows after both,
      subst (λ (l : List ℕ). WritesPartOf s block l old new) (first_numbers all rows after both) (writes_part s block before row old mid new wrote next),
    )
block_halted s block all before after row whole first now old mid new wrote halt.NoMemory next =
    block_written s block all before (row ∷ after) whole old new (subst (λ (o : Option (List ℕ)). WritesOf s block (numbers_of before) old o) (sym next) wrote)

-- memory ran out before a row
pub short_row : (s : LongData) (block : BlockData) (row : ℕ) (old : Option (List ℕ)) (result : Result RowState Halt) → IsErrAnd result (λ why. why ≡ halt.NoMemory) → WritesRow s block row old old result
short_row s block row old (Ok state) short = absurd short
short_row s block row old (Err halt.Fault) short = cc
short_row s block row old (Err halt.NoMemory) short = refl

-- memory ran out after the first rows of a block
pub short_block : (s : LongData) (block : BlockData) (rows : List ℕ) (first now : Bool) (old new : Option (List ℕ)) (result : Result ⊤ Halt) → IsErrAnd result (λ why. why ≡ halt.NoMemory)
    → (n : ℕ) × (n ≤ length rows) × WritesOf s block (take n rows) old new → WritesBlock s block rows first now old new result
short_block s block rows first now old new (Ok done) short wrote = absurd short
short_block s block rows first now old new (Err halt.Fault) short wrote = cc
short_block s block rows first now old new (Err halt.NoMemory) short wrote = wrote
