-- Examples in the order of their rows, and what edits make of them.
use Rattle.std.specs.Prelude.{ℕ, ◌<◌, ◌==◌, not, List, [], ◌∷◌, filter, map, if◌then◌else◌, nat_lt, Contains}
use Rattle.std.specs.List.{AllPairs}
use Rattle.fill_tree.specs.declared.user.Edit.{Edit}
use Rattle.fill_tree.specs.declared.user.Edit.TheVariants.{Add, Correct, Retract, Clear}
use Rattle.fill_tree.specs.declared.user.Example.{Example}

-- the rows rise, so each row has one example at most
abbrev pub AreExamples : List Example → Type 0
AreExamples examples = AllPairs (λ a b. a.row < b.row) examples

abbrev pub rows_of : List Example → List ℕ
rows_of examples = map (λ e. e.row) examples

-- the row has an example
abbrev pub HasExample : List Example → ℕ → Type 0
HasExample examples row = Contains (rows_of examples) row

-- the examples, in the order of their rows, with this one in place of the one of its row
abbrev pub with_example : Example → List Example → List Example
with_example e [] = e ∷ []
with_example e (x ∷ xs) = if nat_lt x.row e.row then x ∷ with_example e xs else if x.row == e.row then e ∷ xs else e ∷ x ∷ xs

-- the examples without the one of this row
abbrev pub without_example : ℕ → List Example → List Example
without_example row examples = filter (λ x. not (x.row == row)) examples

-- the examples after an edit
abbrev pub changed : List Example → Edit → List Example
changed examples (Add row text) = with_example (record { row = row; text = text }) examples
changed examples (Correct row text) = with_example (record { row = row; text = text }) examples
changed examples (Retract row) = without_example row examples
changed examples Clear = []
