-- The cells of a row, column by column, and how many characters they have.
use Rattle.std.proofs.Common.{◌≡◌, ℕ, zero, suc, ◌+◌, ◌<◌, ◌≤◌, ◌==◌, not, List, [], length, take, sum_by, get_or, position, Option, Some, None, true, refl, sym, ap, subst, ◌∙◌, ⊎_elim, arith}
use Rattle.std.specs.List.{AllPairs, position_or_len}
use Rattle.std.proofs.lemmas.Bool.{lt-ltb, eq-eqb, ne_eqb, leb-true, and_parts}
use Rattle.std.proofs.lemmas.List.{take_all}
use Rattle.std.proofs.lemmas.List.Kept.{AllPairs-from_increasing}
use Rattle.std.proofs.lemmas.List.Sums.{prefix_len_is, sum_by_more}
use Rattle.std.proofs.lemmas.Option.{slice_get-get_or, slice_get_cases, same_Some}
use Rattle.fill_text.specs.Data.{RowData, SheetData, nth, cell_at}
use Rattle.fill_sheet.specs.Sheet.{IsSheet}
use Rattle.fill_session.specs.Outcome.{cells_length, inputs_length, is_row}

abbrev pub cells_in : Option RowData → List (List ℕ)
cells_in None = []
cells_in (Some r) = r.cells

-- the cells of a row of the sheet
abbrev pub cells_of : SheetData → ℕ → List (List ℕ)
cells_of sheet row = cells_in (nth sheet.rows row)

counted : (o : Option RowData) → cells_length o ≡ sum_by length (cells_in o)
counted None = refl
counted (Some r) = refl

pub record HasRow (sheet : SheetData) (row : ℕ) : Type 0 where
  pub first : 1 ≤ row
  pub last : row ≤ length sheet.rows

pub has_row : (sheet : SheetData) (row : ℕ) → is_row sheet row ≡ true → HasRow sheet row
has_row sheet row h =
    let both = and_parts _ _ h in
    record { first = leb-true 1 row both.0; last = leb-true row (length sheet.rows) both.1 }

abbrev IsFound : SheetData → ℕ → RowData → Type 0
IsFound sheet row r = (nth sheet.rows row ≡ Some r) × (length r.cells ≡ length sheet.inputs)

found : (sheet : SheetData) (row : ℕ) → IsSheet sheet → HasRow sheet row → (r : RowData) × IsFound sheet row r
found sheet zero is has = absurd (let le = has.first in omega arith)
found sheet (suc i) is has =
    let last = has.last in
    ⊎_elim
    (λ h. (h.0, (h.2, subst (λ (r : RowData). length r.cells ≡ length sheet.inputs) h.3 (is.full i h.0 h.1))))
    (λ h. absurd (let past = h.0 in omega arith))
    (slice_get_cases sheet.rows i).1

-- a column of the sheet stands at one place
place_of : (sheet : SheetData) (i : ℕ) → IsSheet sheet → i < length sheet.inputs → position (λ c. c == get_or sheet.inputs i 0) sheet.inputs ≡ Some i
place_of sheet i is lt =
    let x : ℕ = get_or sheet.inputs i 0 in
    let pairs : AllPairs (λ a b. a < b) sheet.inputs = AllPairs-from_increasing sheet.inputs is.rises in
    let count : position_or_len (λ c. c == x) sheet.inputs ≡ i =
    prefix_len_is (λ c. not (c == x)) sheet.inputs i 0 (omega arith)
    (λ k below. let less : get_or sheet.inputs k 0 < x = pairs k i 0 below lt in
    rw (ne_eqb (get_or sheet.inputs k 0) x (λ same. omega arith)) refl)
    (λ within. rw (eq-eqb x x refl) refl) in
    rw (count, lt-ltb i (length sheet.inputs) lt) refl

cell_in : (sheet : SheetData) (row i : ℕ) (t : List ℕ) (r : RowData) → IsFound sheet row r → IsSheet sheet → i < length sheet.inputs → cell_at sheet row (get_or sheet.inputs i 0) ≡ Some t
    → (i < length (cells_of sheet row)) × (get_or (cells_of sheet row) i [] ≡ t)
cell_in sheet row i t r at is lt cell =
    let full = at.1 in
    let within : i < length r.cells = omega arith in
    let there = rw (place_of sheet i is lt, at.0) at cell in
    rw at.0 (within, same_Some (get_or r.cells i []) t (sym (slice_get-get_or r.cells i [] within) ∙ there))

-- one more cell
pub more_cells : (sheet : SheetData) (row i : ℕ) (t : List ℕ) → IsSheet sheet → HasRow sheet row → i < length sheet.inputs → cell_at sheet row (get_or sheet.inputs i 0) ≡ Some t
    → sum_by length (take (i + 1) (cells_of sheet row)) ≡ sum_by length (take i (cells_of sheet row)) + length t
more_cells sheet row i t is has lt cell =
    let r = found sheet row is has in
    let here = cell_in sheet row i t r.0 r.1 is lt cell in
    sum_by_more length (cells_of sheet row) i [] here.0 ∙ ap (λ (c : List ℕ). sum_by length (take i (cells_of sheet row)) + length c) here.1

-- the cells of all columns
pub all_cells : (sheet : SheetData) (row n : ℕ) → IsSheet sheet → HasRow sheet row → length sheet.inputs ≤ n → sum_by length (take n (cells_of sheet row)) ≡ inputs_length sheet row
all_cells sheet row n is has le =
    let r = found sheet row is has in
    let size : length (cells_of sheet row) ≤ n = rw r.1.0 (let full = r.1.1 in omega arith) in
    ap (λ (cells : List (List ℕ)). sum_by length cells) (take_all n (cells_of sheet row) size) ∙ sym (counted (nth sheet.rows row))
