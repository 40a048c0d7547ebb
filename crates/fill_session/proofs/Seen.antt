-- What is known where no reason against an edit was seen.
use Rattle.std.proofs.Common.{◌≡◌, ℕ, ◌<◌, ◌≤◌, not, if◌then◌else◌, nat_le, nat_lt, true, false, Bool, List, length, Option, Some, None, refl}
use Rattle.std.specs.Option.{option_or}
use Rattle.std.proofs.lemmas.Bool.{ltb-false, leb-false}
use Rattle.fill_text.specs.Data.{SheetData}
use Rattle.fill_tree.specs.declared.user.Edit.TheVariants.{Add, Correct, Retract}
use Rattle.fill_tree.specs.declared.user.Example.{Example}
use Rattle.fill_session.specs.Outcome.{is_row, has_example, inputs_length, length_reason, count_reason, first_reason}
use Rattle.fill_session.specs.declared.error.EditError.{EditError}
use Rattle.fill_session.specs.declared.error.EditError.TheVariants as error
use Rattle.fill_session.specs.declared.error.Part.TheVariants as part
use Rattle.fill_session.proofs.CellCounts.{HasRow, has_row}

-- two tests are passed where the first reason is none
two_passed : (a b : Bool) (x y : EditError) (o : Option EditError) → (if not a then Some x else if b then Some y else o) ≡ None → (a ≡ true) × (b ≡ false) × (o ≡ None)
two_passed true true x y o h = absurd (let same : Some y ≡ None = h in cc)
two_passed true false x y o h = (refl, refl, h)
two_passed false b x y o h = absurd (let same : Some x ≡ None = h in cc)

not_given : (b : Bool) → not b ≡ false → b ≡ true
not_given true h = refl
not_given false h = absurd (let same : true ≡ false = h in cc)

neither : (o p : Option EditError) → option_or o p ≡ None → (o ≡ None) × (p ≡ None)
neither None p h = (refl, h)
neither (Some x) p h = absurd (let same : Some x ≡ None = h in cc)

one_passed : (b : Bool) (x : EditError) (o : Option EditError) → (if b then Some x else o) ≡ None → (b ≡ false) × (o ≡ None)
one_passed true x o h = absurd (let same : Some x ≡ None = h in cc)
one_passed false x o h = (refl, h)

is_short : (sheet : SheetData) (row : ℕ) (text : List ℕ) → length_reason sheet row text ≡ None → length text ≤ 100
is_short sheet row text h =
    let passed = one_passed (nat_lt 100 (length text)) (error.TooLong part.Text (length text))
    (if nat_lt 1000 (inputs_length sheet row) then Some (error.TooLong part.Inputs (inputs_length sheet row)) else None) h in
    ltb-false 100 (length text) passed.0

are_few : (xs : List Example) → count_reason xs ≡ None → length xs < 64
are_few xs h = leb-false 64 (length xs) (one_passed (nat_le 64 (length xs)) error.TooMany None h).0

-- an example may be added
pub record MayAdd (sheet : SheetData) (xs : List Example) (row : ℕ) (text : List ℕ) : Type 0 where
  pub there : HasRow sheet row
  pub free : has_example xs row ≡ false
  pub short : length text ≤ 100
  pub few : length xs < 64

pub may_add : (sheet : SheetData) (xs : List Example) (row : ℕ) (text : List ℕ) → first_reason sheet xs (Add row text) ≡ None → MayAdd sheet xs row text
may_add sheet xs row text h =
    let both = two_passed (is_row sheet row) (has_example xs row) (error.NoSuchRow (length sheet.rows)) error.HasExample (option_or (length_reason sheet row text) (count_reason xs)) h in
    let rest = neither (length_reason sheet row text) (count_reason xs) both.2 in
    record { there = has_row sheet row both.0; free = both.1; short = is_short sheet row text rest.0; few = are_few xs rest.1 }

-- the row has an example, and the text may stand in its place
pub record MayCorrect (sheet : SheetData) (xs : List Example) (row : ℕ) (text : List ℕ) : Type 0 where
  pub there : HasRow sheet row
  pub given : has_example xs row ≡ true
  pub short : length text ≤ 100

pub may_correct : (sheet : SheetData) (xs : List Example) (row : ℕ) (text : List ℕ) → first_reason sheet xs (Correct row text) ≡ None → MayCorrect sheet xs row text
may_correct sheet xs row text h =
    let both = two_passed (is_row sheet row) (not (has_example xs row)) (error.NoSuchRow (length sheet.rows)) error.NoExample (length_reason sheet row text) h in
    record { there = has_row sheet row both.0; given = not_given (has_example xs row) both.1; short = is_short sheet row text both.2 }

-- the row has an example that is to go
pub is_given : (sheet : SheetData) (xs : List Example) (row : ℕ) → first_reason sheet xs (Retract row) ≡ None → has_example xs row ≡ true
is_given sheet xs row h =
    not_given (has_example xs row) (two_passed (is_row sheet row) (not (has_example xs row)) (error.NoSuchRow (length sheet.rows)) error.NoExample None h).1
