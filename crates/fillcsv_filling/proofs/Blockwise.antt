-- A long sheet gone over block by block.
use Rattle.std.proofs.Common.{◌≡◌, ◌∙◌, ℕ, zero, suc, ◌+◌, ◌<◌, ◌≤◌, List, [], ◌∷◌, ◌++◌, length, take, drop, Bool, true, false, arith, ap, refl, subst, sym}
use Rattle.std.specs.Prelude.{◌==◌}
use Rattle.std.proofs.lemmas.Bool.{eqb-true}
use Rattle.std.specs.List.{range_with_len}
use Rattle.std.proofs.lemmas.List.{length-drop, length-take, take-append-drop}
use Rattle.fill_tree.specs.declared.user.Example.{Example}
use Rattle.fill_session.specs.Edits.{rows_of as example_rows}
use Rattle.fill_space.specs.declared.ground.Ground.{Ground}
use Rattle.fillcsv_rows.specs.Learned.{Learns, LearnsFirst}
use Rattle.fillcsv_rows.specs.declared.learning.Refused.{Refused}
use Rattle.fill_output.specs.Fields.{Fields}
use Rattle.fillcsv_blocks.specs.Accepted.{AreAccepted}
use Rattle.fillcsv_blocks.specs.Merged.{numbers_of}
use Rattle.fillcsv_blocks.specs.declared.numbered.Numbered.{Numbered}
use Rattle.fillcsv_filling.specs.Long.{AreRows, rows_of}
use Rattle.fillcsv_filling.specs.Taught.{IsKept}
use Rattle.fillcsv_filling.specs.Reading.{AreOf, most_rows, numbered}
use Rattle.fillcsv_filling.specs.Long.{LongData}
use Rattle.fillcsv_filling.proofs.Choosing.{of_both, of_more, of_those}
use Rattle.fillcsv_filling.proofs.Counting.{most_rows_is}
use Rattle.fillcsv_filling.proofs.Filling.{take_range}
use Rattle.fillcsv_filling.proofs.Lessons.{learns_both}
use Rattle.fillcsv_filling.proofs.Numbering.{drop_both, length_numbered, numbered_append, numbers_numbered, take_both}
use Rattle.fillcsv_filling.proofs.Sheets.{block_rows}

-- n numbers, and then k more
pub range_both : (first n k : ℕ) → range_with_len first (n + k) ≡ range_with_len first n ++ range_with_len (first + n) k
range_both first zero k = let none : 0 + k ≡ k = omega arith in let same : first ≡ first + 0 = omega arith in ap (range_with_len first) none ∙ ap (λ m. range_with_len m k) same
range_both first (suc n) k =
    let more : suc n + k ≡ suc (n + k) = omega arith in
    let same : first + 1 + n ≡ first + suc n = omega arith in
    ap (range_with_len first) more ∙ ap (λ (l : List ℕ). first ∷ l) (range_both (first + 1) n k ∙ ap (λ m. range_with_len (first + 1) n ++ range_with_len m k) same)

module _ (s : LongData) (n : ℕ) (reading left : List Fields) (rows : List Numbered) (rest : reading ≡ drop n (rows_of s)) (within : n ≤ length (rows_of s))
    (is : rows ≡ numbered (n + 1) (take most_rows reading)) (next : left ≡ drop most_rows reading) where
  rows_are : rows ≡ numbered (n + 1) (take most_rows (drop n (rows_of s)))
  rows_are = is ∙ ap (λ (l : List Fields). numbered (n + 1) (take most_rows l)) rest

  count_is : length rows ≡ length (take most_rows (drop n (rows_of s)))
  count_is = ap length rows_are ∙ length_numbered (n + 1) (take most_rows (drop n (rows_of s)))

  pub next_rows : AreRows s rows
  next_rows = block_rows s n rows within rows_are

  pub next_within : n + length rows ≤ length (rows_of s)
  next_within = omega (arith, within, count_is, length-take most_rows (drop n (rows_of s)), length-drop n (rows_of s))

  pub next_left : left ≡ drop (n + length rows) (rows_of s)
  next_left = next ∙ ap (drop most_rows) rest ∙ drop_both n most_rows (rows_of s) ∙ sym (ap (λ k. drop (n + k) (rows_of s)) count_is)

  -- the rows end where a block is empty
  pub next_ends : length rows ≡ 0 → n ≡ length (rows_of s)
  next_ends none = omega (arith, none, most_rows_is, within, count_is, length-take most_rows (drop n (rows_of s)), length-drop n (rows_of s))

  next_numbers : numbers_of rows ≡ range_with_len (1 + n) (length rows)
  next_numbers =
      let same : n + 1 ≡ 1 + n = omega arith in
      ap numbers_of rows_are ∙ numbers_numbered (n + 1) (take most_rows (drop n (rows_of s))) ∙ sym (ap (range_with_len (n + 1)) count_is) ∙ ap (λ m. range_with_len m (length rows)) same

  -- the numbers of the rows so far and of the block
  pub numbers_so_far : range_with_len 1 n ++ numbers_of rows ≡ range_with_len 1 (n + length rows)
  numbers_so_far = ap (λ (l : List ℕ). range_with_len 1 n ++ l) next_numbers ∙ sym (range_both 1 n (length rows))

  -- the numbers of the rows so far and of the first ones of the block
  pub first_so_far : (k : ℕ) → k ≤ length rows → range_with_len 1 n ++ take k (numbers_of rows) ≡ range_with_len 1 (n + k)
  first_so_far k le =
      ap (λ (l : List ℕ). range_with_len 1 n ++ take k l) next_numbers ∙ ap (λ (l : List ℕ). range_with_len 1 n ++ l) (take_range (1 + n) (length rows) k le) ∙ sym (range_both 1 n k)

  rows_so_far : numbered 1 (take n (rows_of s)) ++ rows ≡ numbered 1 (take (n + length rows) (rows_of s))
  rows_so_far =
      let all = rows_of s in
      let size : length (take n all) ≡ n = omega (arith, within, length-take n all) in
      let at : 1 + length (take n all) ≡ n + 1 = omega arith in
      sym (ap (λ k. numbered 1 (take (n + k) all)) count_is ∙ ap (numbered 1) (take_both n most_rows all within) ∙ numbered_append 1 (take n all) (take most_rows (drop n all))
      ∙ ap (λ m. numbered 1 (take n all) ++ numbered m (take most_rows (drop n all))) at ∙ sym (ap (λ (l : List Numbered). numbered 1 (take n all) ++ l) rows_are))

  -- rows that were kept of those so far
  pub kept_then : (kept : List Numbered) → AreOf kept (numbered 1 (take n (rows_of s))) → AreOf (kept ++ rows) (numbered 1 (take (n + length rows) (rows_of s)))
  kept_then kept are = subst (λ (l : List Numbered). AreOf (kept ++ rows) l) rows_so_far (of_both kept (numbered 1 (take n (rows_of s))) rows are)

  pub kept_next : (kept more : List Numbered) → AreOf kept (numbered 1 (take n (rows_of s))) → AreOf more (kept ++ rows) → AreOf more (numbered 1 (take (n + length rows) (rows_of s)))
  kept_next kept more are of = of_those more (kept ++ rows) (numbered 1 (take (n + length rows) (rows_of s))) of (kept_then kept are)

  pub kept_in : (kept : List Numbered) → AreOf kept (numbered 1 (take n (rows_of s))) → AreOf (kept ++ rows) (numbered 1 (rows_of s))
  kept_in kept are = of_so_far (n + length rows) (kept ++ rows) (kept_then kept are)
    where
      of_so_far : (m : ℕ) (these : List Numbered) → AreOf these (numbered 1 (take m (rows_of s))) → AreOf these (numbered 1 (rows_of s))
      of_so_far m these of =
          let first = take m (rows_of s) in
          let later = drop m (rows_of s) in
          subst (λ (l : List Numbered). AreOf these l) (sym (ap (numbered 1) (sym (take-append-drop m (rows_of s))) ∙ numbered_append 1 first later))
          (of_more these (numbered 1 first) (numbered (1 + length first) later) of)

  -- what the rows so far and the block teach
  pub learns_then : (typed : List Example) (g : Ground) (mid b : List Example) (before after : List Refused) → LearnsFirst typed g n mid before
      → (here : List Refused) × Learns typed g mid (numbers_of rows) b here × (after ≡ before ++ here) → LearnsFirst typed g (n + length rows) b after
  learns_then typed g mid b before after first more =
      subst (λ (l : List Refused). LearnsFirst typed g (n + length rows) b l) (sym more.2)
      (subst (λ (l : List ℕ). Learns typed g [] l b (before ++ more.0)) numbers_so_far (learns_both typed g [] mid b (range_with_len 1 n) (numbers_of rows) before more.0 first more.1))

-- before the first row
pub none_kept : (s : LongData) (kept : List Numbered) (examples : List Example) → kept ≡ [] → examples ≡ [] → IsKept s kept examples
none_kept s kept examples none nothing =
    let empty : List Numbered = [] in
    record {
      rows = record {
        rows = subst (λ (l : List Numbered). AreOf l (numbered 1 (rows_of s))) (sym none) tt;
        few = omega (arith, ap length none);
      };
      numbers = ap numbers_of none ∙ sym (ap (λ (l : List Example). example_rows l) nothing);
      few = omega (arith, ap length none);
    }

pub none_accepted : (g : Ground) (examples : List Example) → examples ≡ [] → AreAccepted g examples
none_accepted g examples none = subst (λ (l : List Example). AreAccepted g l) (sym none) refl

-- what a test for no rows tells
pub is_none : (n : ℕ) (empty : Bool) → empty ≡ (n == 0) → empty ≡ true → n ≡ 0
is_none n empty is none = eqb-true n 0 (sym is ∙ none)

pub is_some : (n : ℕ) (empty : Bool) → empty ≡ (n == 0) → empty ≡ false → 0 < n
is_some zero empty is none = cc
is_some (suc n) empty is none = omega arith

-- rows that are shown of those so far
pub shown_rows : (s : LongData) (n : ℕ) (shown : List Numbered) → AreOf shown (numbered 1 (take n (rows_of s))) → length shown ≤ 1000 → AreRows s shown
shown_rows s n shown of few =
    let first = take n (rows_of s) in
    let later = drop n (rows_of s) in
    record {
      rows = subst (λ (l : List Numbered). AreOf shown l) (sym (ap (numbered 1) (sym (take-append-drop n (rows_of s))) ∙ numbered_append 1 first later))
          (of_more shown (numbered 1 first) (numbered (1 + length first) later) of);
      few = omega (arith, few, most_rows_is);
    }
