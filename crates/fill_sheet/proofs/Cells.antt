-- Pieces of lists: the records of the rows, and the cell of a row and a column.
use Rattle.std.proofs.Common.{◌≡◌, ℕ, zero, suc, ◌+◌, ◌-◌, ◌<◌, ◌≤◌, ◌==◌, min, List, length, take, drop, Some, IsSome, Contains, slice_get, position, get_or, leb, true, false, refl, sym, ◌∙◌, arith}
use Rattle.std.proofs.lemmas.List.{drop-take, drop_all, length-take}
use Rattle.std.proofs.lemmas.Bool.{leb-true, leb-false, lt-ltb}
use Rattle.std.proofs.lemmas.Bool.Decides.{nat_tests}
use Rattle.std.proofs.lemmas.List.Quantifiers.{position-Some}
use Rattle.std.proofs.lemmas.List.Sums.{fails_before_first}
use Rattle.std.proofs.lemmas.Option.{slice_get_read}
use Rattle.fill_records.proofs.Firsts.{take-min}
use Rattle.fill_sheet.specs.Sheet.{IsSheet}
use Rattle.std.specs.List.{position_or_len}
use Rattle.fill_text.specs.Data.{RowData, SheetData, nth, cell_at}

drop-min : {A : Type 0} (xs : List A) (most : ℕ) → drop (min (length xs) most) xs ≡ drop most xs
drop-min xs most = elim (leb most (length xs)) as (λ b. leb most (length xs) ≡ b → drop (min (length xs) most) xs ≡ drop most xs) [
  | true ↦ λ is.
      let le = leb-true most (length xs) is in
      let all : min (length xs) most ≡ most = omega arith in
      rw all refl
  | false ↦ λ is.
      let lt = leb-false most (length xs) is in
      let le : length xs ≤ most = omega arith in
      let same : length xs ≤ min (length xs) most = omega arith in
      rw (drop_all (min (length xs) most) xs same, drop_all most xs le) refl
] refl

-- the items from a place on, of those before another
pub range-drop-take : {A : Type 0} (xs : List A) (from most start end : ℕ) → end ≡ min (length xs) most → start ≡ min end from → take (end - start) (drop start xs) ≡ drop from (take most xs)
range-drop-take xs from most start end end_is start_is =
    let whole : start + (end - start) ≡ end = omega arith in
    let size : length (take most xs) ≡ end = length-take most xs ∙ omega arith in
    let first : take end xs ≡ take most xs = rw end_is (take-min xs most) in
    let place : start ≡ min (length (take most xs)) from = omega arith in
    sym (drop-take start (end - start) xs) ∙ rw (whole, first, place) (drop-min (take most xs) from)

nth-slice_get : {A : Type 0} (xs : List A) (n : ℕ) → 1 ≤ n → nth xs n ≡ slice_get xs (n - 1)
nth-slice_get xs zero le = absurd (omega arith)
nth-slice_get xs (suc n) le = let less : suc n - 1 ≡ n = omega arith in rw less refl

-- a number that is among others has a place
place_in : (xs : List ℕ) (x k : ℕ) → k < length xs → get_or xs k x ≡ x → position_or_len (λ y. y == x) xs < length xs
place_in xs x k lt is = elim (leb (length xs) (position_or_len (λ y. y == x) xs)) as (λ b. leb (length xs) (position_or_len (λ y. y == x) xs) ≡ b → position_or_len (λ y. y == x) xs < length xs) [
  | true ↦ λ le.
      let past = leb-true (length xs) (position_or_len (λ y. y == x) xs) le in
      let fails = fails_before_first (λ y. y == x) xs k x (omega arith) in
      let same : (x == x) ≡ true = grind (arith, nat_tests) in
      let differs : (x == x) ≡ false = rw is at fails in
      cc
  | false ↦ λ lt. leb-false (length xs) (position_or_len (λ y. y == x) xs) lt
] refl

pub place-Contains : (xs : List ℕ) (x : ℕ) → Contains xs x → IsSome (position (λ y. y == x) xs)
place-Contains xs x found = rw (lt-ltb (position_or_len (λ y. y == x) xs) (length xs) (place_in xs x found.0 found.1 found.2)) refl

-- the cell that is found at a place of a row
pub cell_at-found : (sheet : SheetData) (row column at : ℕ) (found : RowData) (cell : List ℕ) → IsSheet sheet → 1 ≤ row → row ≤ length sheet.rows → position (λ input. input == column) sheet.inputs ≡ Some at
    → found ≡ get_or sheet.rows (row - 1) found → cell ≡ get_or found.cells at cell → cell_at sheet row column ≡ Some cell
cell_at-found sheet row column at found cell is first last place row_is cell_is =
    let within = (position-Some (λ input. input == column) sheet.inputs at 0 place).0 in
    let cells : length found.cells ≡ length sheet.inputs = rw (← row_is) at (is.full (row - 1) found (omega arith)) in
    let row_there : slice_get sheet.rows (row - 1) ≡ Some found = slice_get_read sheet.rows (length sheet.rows) (row - 1) found refl (omega arith) row_is in
    let cell_there : slice_get found.cells at ≡ Some cell = slice_get_read found.cells (length found.cells) at cell refl (omega arith) cell_is in
    rw (place, nth-slice_get sheet.rows row first, row_there, cell_there) refl
