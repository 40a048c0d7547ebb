-- What an edit leads to: the examples that it leaves, or why it is refused, and how many steps it may take.
use Rattle.std.specs.Prelude.{◌≡◌, ◌≢◌, ◌⊎◌, ℕ, ◌+◌, ◌*◌, ◌==◌, ◌&&◌, not, if◌then◌else◌, nat_le, nat_lt, Bool, List, length, sum_by, count_by, Option, None, Some, Result, Ok, Err, ⊤}
use Rattle.std.specs.List.{list_any}
use Rattle.std.specs.Option.{option_or}
use Rattle.fill_text.specs.Data.{RowData, SheetData, nth}
use Rattle.fill_tree.specs.declared.user.Edit.{Edit}
use Rattle.fill_tree.specs.declared.user.Edit.TheVariants.{Add, Correct, Retract, Clear}
use Rattle.fill_tree.specs.declared.user.Example.{Example}
use Rattle.fill_tree.specs.declared.user.TheConstants.{MOST_EXAMPLES}
use Rattle.fill_tree.specs.declared.user.TheConstants.{MOST_CHARACTERS}
use Rattle.fill_split.specs.declared.place.TheConstants.{MOST_BRANCHES}
use Rattle.fill_space.specs.declared.ground.Ground.{Ground}
use Rattle.fill_session.specs.Edits.{changed}
use Rattle.fill_session.specs.Fate.{FateIs}
use Rattle.fill_session.specs.declared.error.EditError.{EditError}
use Rattle.fill_session.specs.declared.reasons.TheConstants.{MOST_INPUT_CHARACTERS}
use Rattle.fill_session.specs.declared.error.EditError.TheVariants as error
use Rattle.fill_session.specs.declared.error.Part.TheVariants as part

-- the row is one of the sheet's
abbrev pub is_row : SheetData → ℕ → Bool
is_row sheet row = nat_le 1 row && nat_le row (length sheet.rows)

-- the row has an example
abbrev pub has_example : List Example → ℕ → Bool
has_example examples row = list_any (λ x. x.row == row) examples

-- how many characters the cells of a row have together
abbrev pub cells_length : Option RowData → ℕ
cells_length None = 0
cells_length (Some r) = sum_by length r.cells

-- the same of a row of the sheet
abbrev pub inputs_length : SheetData → ℕ → ℕ
inputs_length sheet row = cells_length (nth sheet.rows row)

-- why the text, or else what the row's inputs have together, is too long to learn from
abbrev pub length_reason : SheetData → ℕ → List ℕ → Option EditError
length_reason sheet row text =
    if nat_lt MOST_CHARACTERS (length text) then Some (error.TooLong part.Text (length text)) else
    if nat_lt MOST_INPUT_CHARACTERS (inputs_length sheet row) then Some (error.TooLong part.Inputs (inputs_length sheet row)) else None

-- there are already as many examples as there may be
abbrev pub count_reason : List Example → Option EditError
count_reason examples = if nat_le MOST_EXAMPLES (length examples) then Some error.TooMany else None

-- the first reason to refuse an edit that is seen without a look at programs
abbrev pub first_reason : SheetData → List Example → Edit → Option EditError
first_reason sheet examples (Add row text) =
    if not (is_row sheet row) then Some (error.NoSuchRow (length sheet.rows)) else
    if has_example examples row then Some error.HasExample else
    option_or (length_reason sheet row text) (count_reason examples)
first_reason sheet examples (Correct row text) =
    if not (is_row sheet row) then Some (error.NoSuchRow (length sheet.rows)) else
    if not (has_example examples row) then Some error.NoExample else length_reason sheet row text
first_reason sheet examples (Retract row) =
    if not (is_row sheet row) then Some (error.NoSuchRow (length sheet.rows)) else
    if not (has_example examples row) then Some error.NoExample else None
first_reason sheet examples Clear = None

-- what the edit leads to: the reason for which it is refused, and none where it is accepted
abbrev pub OutcomeIs : Ground → List Example → Edit → Option EditError → Type 0
OutcomeIs g examples edit None = (first_reason g.sheet examples edit ≡ None) × FateIs g (changed examples edit) None
OutcomeIs g examples edit (Some reason) =
    (first_reason g.sheet examples edit ≡ Some reason)
    ⊎ ((first_reason g.sheet examples edit ≡ None) × FateIs g (changed examples edit) (Some reason))

-- one step, and one for each branch that there may be, for each example from the row on
abbrev pub steps_from : List Example → ℕ → ℕ
steps_from examples row = 1 + MOST_BRANCHES * count_by (λ x. nat_le row x.row) examples

-- the most steps of an edit that leaves these examples: none where a reason was seen without a look at programs
abbrev pub term_of : Option EditError → List Example → Edit → ℕ
term_of (Some reason) examples edit = 0
term_of None examples (Add row text) = steps_from examples row
term_of None examples (Correct row text) = steps_from examples row
term_of None examples (Retract row) = steps_from examples row
term_of None examples Clear = 0

abbrev pub term : SheetData → List Example → Edit → ℕ
term sheet examples edit = term_of (first_reason sheet examples edit) (changed examples edit) edit

-- an edit's answer and the examples that it leaves: after a refusal those of before. Out of memory is free
abbrev pub Answers : Ground → List Example → Edit → Result ⊤ EditError → List Example → Type 0
Answers g examples edit (Ok done) after = OutcomeIs g examples edit None × (after ≡ changed examples edit)
Answers g examples edit (Err reason) after = (reason ≢ error.NoMemory → OutcomeIs g examples edit (Some reason)) × (after ≡ examples)
