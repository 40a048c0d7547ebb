-- The examples that are typed, and those that the cells of a sheet's column give.
use Rattle.std.specs.Prelude.{◌≡◌, ◌⊎◌, ℕ, ◌==◌, List, [], ◌∷◌, ◌++◌, length, Bool, true, false, Option, None, Some, if◌then◌else◌}
use Rattle.std.specs.List.{range_with_len}
use Rattle.fill_text.specs.Data.{SheetData}
use Rattle.fill_sheet.specs.Sheet.{given_at}
use Rattle.fill_tree.specs.declared.user.Edit.TheVariants.{Add}
use Rattle.fill_tree.specs.declared.user.Example.{Example}
use Rattle.fill_space.specs.declared.ground.Ground.{Ground}
use Rattle.fill_session.specs.Edits.{changed}
use Rattle.fill_session.specs.Outcome.{OutcomeIs}
use Rattle.fill_session.specs.declared.error.EditError.{EditError}
use Rattle.fill_session.specs.declared.error.EditError.TheVariants as error
use Rattle.fillcsv_rows.specs.declared.learning.Refused.{Refused}

-- the text that is typed for a row, the first one where there are several
abbrev pub typed_at : List Example → ℕ → Option (List ℕ)
typed_at [] row = None
typed_at (e ∷ more) row = if e.row == row then Some e.text else typed_at more row

-- what a row gives: the text that is typed for it, or else that of its cell
abbrev pub given_by : Option (List ℕ) → Option (List ℕ) → Option (List ℕ)
given_by (Some text) cell = Some text
given_by None cell = cell

abbrev pub given_for : List Example → SheetData → ℕ → Option (List ℕ)
given_for typed sheet row = given_by (typed_at typed row) (given_at sheet row)

-- what a given text makes of the examples: they stay where the row gives none; else it is added, or it is refused for a reason
abbrev pub Gives : Ground → List Example → ℕ → Option (List ℕ) → List Example → List Refused → Type 0
Gives g a row None b refused = (b ≡ a) × (refused ≡ [])
Gives g a row (Some text) b refused =
    (OutcomeIs g a (Add row text) None × (b ≡ changed a (Add row text)) × (refused ≡ []))
    ⊎ ((reason : EditError) × OutcomeIs g a (Add row text) (Some reason) × (b ≡ a) × (refused ≡ (record { row = row; reason = reason }) ∷ []))

-- what rows make of the examples by what they give, one after the other, and which of them are refused
abbrev pub Learns : List Example → Ground → List Example → List ℕ → List Example → List Refused → Type 0
Learns typed g a [] b refused = (b ≡ a) × (refused ≡ [])
Learns typed g a (row ∷ more) b refused = (mid : List Example) × (here : List Refused) × (later : List Refused)
    × Gives g a row (given_for typed g.sheet row) mid here × Learns typed g mid more b later × (refused ≡ here ++ later)

-- the examples that the first n rows give, and which of them are refused
abbrev pub LearnsFirst : List Example → Ground → ℕ → List Example → List Refused → Type 0
LearnsFirst typed g n examples refused = Learns typed g [] (range_with_len 1 n) examples refused

-- the examples that all rows give, and which of them are refused
abbrev pub AreLearned : List Example → Ground → List Example → List Refused → Type 0
AreLearned typed g examples refused = LearnsFirst typed g (length g.sheet.rows) examples refused

-- a refusal counts, apart from that of an example after the sixty-fourth
abbrev pub counts_for : EditError → Bool
counts_for error.TooMany = false
counts_for reason = true

abbrev pub counts : Refused → Bool
counts refused = counts_for refused.reason
