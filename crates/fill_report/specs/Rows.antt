-- What is told of rows: their answers and states.
use Rattle.std.specs.Prelude.{◌≡◌, ℕ, List, [], ◌∷◌, count_by, Bool, true, false, Option, None, Some, codes}
use Rattle.std.specs.Fmt.{decimal}
use Rattle.std.specs.List.{AllZip, range_with_len}
use Rattle.fill_output.specs.Fields.{Fields}
use Rattle.fill_output.specs.Fields.{answer_field}
use Rattle.fill_tree.specs.declared.user.Example.{Example}
use Rattle.fill_space.specs.declared.ground.Ground.{Ground}
use Rattle.fill_session.specs.Answers.{AnswerIs}
use Rattle.fill_session.specs.declared.answer.Answer.{Answer}
use Rattle.fill_states.specs.States.{row_state, state_name}
use Rattle.fill_states.specs.declared.row_state.RowState.{RowState}
use Rattle.fill_states.specs.declared.row_state.RowState.TheVariants as state

-- the record of a row with this answer
abbrev pub row_record : ℕ → Answer → Fields
row_record row a = codes "row" ∷ decimal row ∷ answer_field a.text ∷ state_name (row_state a) ∷ []

-- the record is that of the row's answer
abbrev pub IsRowRecord : Ground → List Example → ℕ → Fields → Type 0
IsRowRecord g examples row fields = (a : Answer) × AnswerIs g examples row a × (fields ≡ row_record row a)

-- the state is that of the row's answer
abbrev pub IsRowState : Ground → List Example → ℕ → RowState → Type 0
IsRowState g examples row s = (a : Answer) × AnswerIs g examples row a × (s ≡ row_state a)

-- the records of the first n rows, in order
abbrev pub AreRowRecords : Ground → List Example → ℕ → List Fields → Type 0
AreRowRecords g examples n records = AllZip (IsRowRecord g examples) (range_with_len 1 n) records

-- the states of the first n rows, in order
abbrev pub AreRowStates : Ground → List Example → ℕ → List RowState → Type 0
AreRowStates g examples n states = AllZip (IsRowState g examples) (range_with_len 1 n) states

-- both are the same state
abbrev pub is_state : RowState → RowState → Bool
is_state state.Given state.Given = true
is_state state.Sure state.Sure = true
is_state state.Doubt state.Doubt = true
is_state state.Nothing state.Nothing = true
is_state state.NothingInDoubt state.NothingInDoubt = true
is_state s t = false

-- how many of the states are this one
abbrev pub count_of : RowState → List RowState → ℕ
count_of s states = count_by (is_state s) states

-- the record of how many rows have each state
abbrev pub count_record : List RowState → Fields
count_record states = codes "count" ∷ decimal (count_of state.Given states) ∷ decimal (count_of state.Sure states) ∷ decimal (count_of state.Doubt states)
    ∷ decimal (count_of state.Nothing states) ∷ decimal (count_of state.NothingInDoubt states) ∷ []
