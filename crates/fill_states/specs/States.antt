-- What is told of a row whose answer is known.
use Rattle.std.specs.Prelude.{ℕ, List, Option, None, Some, codes}
use Rattle.fill_session.specs.declared.answer.Answer.{Answer}
use Rattle.fill_session.specs.declared.answer.State.{State}
use Rattle.fill_session.specs.declared.answer.State.TheVariants as memo
use Rattle.fill_states.specs.declared.row_state.RowState.{RowState}
use Rattle.fill_states.specs.declared.row_state.RowState.TheVariants as state

-- what is told of a row whose answer is known so and has this text
abbrev pub told_state : State → Option (List ℕ) → RowState
told_state memo.Given text = state.Given
told_state memo.Sure None = state.Nothing
told_state memo.Sure (Some text) = state.Sure
told_state memo.Doubt None = state.NothingInDoubt
told_state memo.Doubt (Some text) = state.Doubt

-- the state of the row of an answer
abbrev pub row_state : Answer → RowState
row_state a = told_state a.state a.text

abbrev pub state_name : RowState → List ℕ
state_name state.Given = codes "given"
state_name state.Sure = codes "sure"
state_name state.Doubt = codes "doubt"
state_name state.Nothing = codes "none"
state_name state.NothingInDoubt = codes "none doubt"
