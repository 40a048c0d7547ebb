-- Rows that a block can have, whatever the file holds.
use Rattle.std.proofs.Common.{◌≡◌, ℕ, ◌+◌, ◌<◌, ◌≤◌, List, [], ◌∷◌, ◌++◌, length, All, ap, arith, subst, sym}
use Rattle.std.proofs.lemmas.List.Elements.{All-append, All-cons, All-head, All-nil, All-tail, All-weaker}
use Rattle.std.proofs.lemmas.List.Kept.{AllPairs-cons}
use Rattle.fill_sheet.specs.Columns.{rising}
use Rattle.fillcsv_blocks.specs.Merged.{IsReadable, RowsRise}
use Rattle.fillcsv_blocks.specs.declared.numbered.Numbered.{Numbered}
use Rattle.fillcsv_filling.specs.Long.{AreFit}
use Rattle.fillcsv_filling.specs.Reading.{AreFrom, AreOf, most_rows}
use Rattle.fillcsv_filling.specs.declared.sheet.LongSheet.{LongSheet}
use Rattle.fillcsv_filling.proofs.Choosing.{Less, of_all, of_rises, rises_head, rises_none, rises_tail}

-- numbers that go on from one are above what is below it
goes_above : (n first : ℕ) (rows : List Numbered) → n < first → AreFrom first rows → All (λ it. n < it.number) rows
goes_above n first [] lt is = All-nil (λ (it : Numbered). n < it.number)
goes_above n first (x ∷ xs) lt is =
    All-cons (λ (it : Numbered). n < it.number) x xs (omega (arith, lt, is.0)) (goes_above n (first + 1) xs (omega (arith, lt)) is.1)

-- and at most the last of them
goes_below : (n most : ℕ) (rows : List Numbered) → AreFrom (n + 1) rows → n + length rows ≤ most → All (λ it. it.number ≤ most) rows
goes_below n most [] is few = All-nil (λ (it : Numbered). it.number ≤ most)
goes_below n most (x ∷ xs) is few =
    All-cons (λ (it : Numbered). it.number ≤ most) x xs (omega (arith, few, is.0)) (goes_below (n + 1) most xs is.1 (omega (arith, few)))

pub from_rises : (first : ℕ) (rows : List Numbered) → AreFrom first rows → RowsRise rows
from_rises first [] is = rises_none
from_rises first (x ∷ xs) is = AllPairs-cons Less x xs (goes_above x.number (first + 1) xs (omega (arith, is.0)) is.1) (from_rises (first + 1) xs is.1)

pub from_above : (n : ℕ) (rows : List Numbered) → AreFrom (n + 1) rows → All (λ it. n < it.number) rows
from_above n rows is = goes_above n (n + 1) rows (omega arith) is

pub from_below : (n : ℕ) (rows : List Numbered) → AreFrom (n + 1) rows → All (λ it. it.number ≤ n + length rows) rows
from_below n rows is = goes_below n (n + length rows) rows is (omega arith)

-- some of rows that a block can have, where they are few enough
pub fit_of : (s : LongSheet) (most : ℕ) (these rows : List Numbered) → AreOf these rows → All (IsReadable (rising s.inputs.now) s.output) rows → RowsRise rows → length these ≤ most
    → AreFit s most these
fit_of s most these rows of text rise few = record {
  text = of_all (IsReadable (rising s.inputs.now) s.output) these rows of text;
  rise = of_rises these rows of rise;
  few = few;
}

-- rows up to a number, and then rows above it
pub rises_both : (n : ℕ) (xs ys : List Numbered) → RowsRise xs → RowsRise ys → All (λ it. it.number ≤ n) xs → All (λ it. n < it.number) ys → RowsRise (xs ++ ys)
rises_both n [] ys rise more below above = more
rises_both n (x ∷ xs) ys rise more below above =
    let here : x.number ≤ n = All-head (λ (it : Numbered). it.number ≤ n) x xs below in
    let later : All (Less x) ys = All-weaker (λ (it : Numbered). n < it.number) (Less x) (λ it lt. omega (arith, here, lt)) ys above in
    AllPairs-cons Less x (xs ++ ys) (All-append (Less x) xs ys (rises_head x xs rise) later)
    (rises_both n xs ys (rises_tail x xs rise) more (All-tail (λ (it : Numbered). it.number ≤ n) x xs below) above)

pub fit_none : (s : LongSheet) (most : ℕ) (rows : List Numbered) → rows ≡ [] → AreFit s most rows
fit_none s most rows none =
    let Readable = IsReadable (rising s.inputs.now) s.output in
    record {
      text = subst (λ (l : List Numbered). All Readable l) (sym none) (All-nil Readable);
      rise = subst (λ (l : List Numbered). RowsRise l) (sym none) (λ i j d less lt. absurd (omega arith));
      few = omega (arith, ap length none);
    }

-- the rows that were kept of the first n are followed by those after them
module _ (n : ℕ) (kept rows more : List Numbered) (below : All (λ it. it.number ≤ n) kept) (from : AreFrom (n + 1) rows) (chosen : AreOf more (kept ++ rows)) where
  pub kept_below : All (λ it. it.number ≤ n + length rows) more
  kept_below =
      let Below = λ (it : Numbered). it.number ≤ n + length rows in
      of_all Below more (kept ++ rows) chosen
      (All-append Below kept rows (All-weaker (λ (it : Numbered). it.number ≤ n) Below (λ it le. omega (arith, le)) kept below) (from_below n rows from))

  pub kept_fit : (s : LongSheet) (most : ℕ) → AreFit s most kept → AreFit s most_rows rows → length more ≤ most → AreFit s most more
  kept_fit s most fit next few =
      let Readable = IsReadable (rising s.inputs.now) s.output in
      fit_of s most more (kept ++ rows) chosen (All-append Readable kept rows fit.text next.text) (rises_both n kept rows fit.rise next.rise below (from_above n rows from)) few
