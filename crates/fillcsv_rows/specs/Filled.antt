-- The records of a sheet with one of its columns filled.
use Rattle.std.specs.Prelude.{◌≡◌, ℕ, List, [], ◌++◌, ◌||◌, Bool, true, false, Option, None, Some, codes, encode_utf8_all}
use Rattle.std.specs.Io.KnownBytes.{Appends}
use Rattle.std.specs.List.{AllZip, list_any, range_with_len}
use Rattle.fill_text.specs.Data.{nth}
use Rattle.fill_edge.specs.Outside.{AppendsPart}
use Rattle.fill_records.specs.Records.{field_of}
use Rattle.fill_sheet.specs.Sheet.{given_at}
use Rattle.fill_tree.specs.declared.user.Example.{Example}
use Rattle.fill_space.specs.declared.ground.Ground.{Ground}
use Rattle.fill_session.specs.Answers.{AnswerIs}
use Rattle.fill_session.specs.declared.answer.Answer.{Answer}
use Rattle.fill_session.specs.declared.answer.State.{State}
use Rattle.fill_session.specs.declared.answer.State.TheVariants as known
use Rattle.fill_output.specs.Fields.{report_text}
use Rattle.fill_output.specs.Fields.{Fields}
use Rattle.fill_output.specs.Fields.{answer_field}
use Rattle.fill_states.specs.States.{row_state, state_name}
use Rattle.fill_states.specs.declared.row_state.RowState.{RowState}
use Rattle.fill_states.specs.declared.row_state.RowState.TheVariants as state
use Rattle.fillcsv_columns.specs.Fields.{with_field}
use Rattle.fillcsv_rows.specs.Learned.{given_by, given_for, typed_at}
use Rattle.fillcsv_rows.specs.declared.form.Form.{Form}

-- the text of an answer, empty where it has none; one in doubt is left out where only sure ones are wanted
abbrev pub wanted_text : Bool → State → Option (List ℕ) → List ℕ
wanted_text false state text = answer_field text
wanted_text true known.Given text = answer_field text
wanted_text true known.Sure text = answer_field text
wanted_text true known.Doubt text = []

-- the cell of a row in the column that is filled: the text that is typed for it, in UTF-8; or else one that the sheet gives
-- stays as it is, byte by byte; or else it is the wanted text of the row's answer
abbrev pub cell_of : Form → Option (List ℕ) → Option (List ℕ) → Answer → Fields → List ℕ
cell_of form (Some text) cell a fields = encode_utf8_all text
cell_of form None (Some text) a fields = field_of form.column fields
cell_of form None None a fields = wanted_text form.only_sure a.state a.text

-- a record with that cell
abbrev pub with_answer : Form → Option (List ℕ) → Option (List ℕ) → Answer → Fields → Fields
with_answer form typed cell a fields = with_field form.column (cell_of form typed cell a fields) fields

-- the state of a row's cell: given where the row gives a text, and else that of the row's answer
abbrev pub cell_state : Option (List ℕ) → Answer → RowState
cell_state (Some text) a = state.Given
cell_state None a = row_state a

-- a record with a word in the column of states, where there is one
abbrev pub with_word : Option ℕ → List ℕ → Fields → Fields
with_word None word fields = fields
with_word (Some column) word fields = with_field column word fields

-- the record of a row for which this is typed, or nothing, and whose cell gives that, or nothing, with its answer and its state
abbrev pub filled_fields : Form → Option (List ℕ) → Option (List ℕ) → Answer → Fields → Fields
filled_fields form typed cell a fields = with_word form.states (state_name (cell_state (given_by typed cell) a)) (with_answer form typed cell a fields)

-- the header with the name of the column that is filled, where it is a new one
abbrev pub with_name : Form → Option (List ℕ) → Fields → Fields
with_name form None fields = fields
with_name form (Some name) fields = with_field form.column name fields

-- the name of the column that is filled
abbrev pub name_of : Form → Option (List ℕ) → Fields → List ℕ
name_of form None fields = field_of form.column fields
name_of form (Some name) fields = name

-- the header with that name, and with one for the column of states
abbrev pub head_fields : Form → Option (List ℕ) → Fields → Fields
head_fields form name fields = with_word form.states (name_of form name fields ++ codes " state") (with_name form name fields)

-- the state of a row's cell, by the row's defined answer
abbrev pub IsCellState : List Example → Ground → List Example → ℕ → RowState → Type 0
IsCellState typed g examples row s = (a : Answer) × AnswerIs g examples row a × (s ≡ cell_state (given_for typed g.sheet row) a)

-- the states of the cells of the first n rows, in order
abbrev pub AreCellStates : List Example → Ground → List Example → ℕ → List RowState → Type 0
AreCellStates typed g examples n states = AllZip (IsCellState typed g examples) (range_with_len 1 n) states

-- a cell that is neither given nor sure
abbrev pub is_unsure : RowState → Bool
is_unsure state.Given = false
is_unsure state.Sure = false
is_unsure state.Doubt = true
is_unsure state.Nothing = true
is_unsure state.NothingInDoubt = true

-- the flag tells now whether it told so before or one of the cells of the first n rows is neither given nor sure
abbrev pub TellsUnsure : List Example → Ground → List Example → ℕ → Bool → Bool → Type 0
TellsUnsure typed g examples n before now = (states : List RowState) × AreCellStates typed g examples n states
    × (now ≡ (before || list_any is_unsure states))

-- the record of a row of the sheet, made of the one that was read and of the row's defined answer
abbrev pub IsFilledRow : Form → List Example → Ground → List Example → List Fields → ℕ → Fields → Type 0
IsFilledRow form typed g examples records row made = (fields : Fields) × (a : Answer)
    × (nth records row ≡ Some fields) × AnswerIs g examples row a
    × (made ≡ filled_fields form (typed_at typed row) (given_at g.sheet row) a fields)

-- the records of the first n rows, in order
abbrev pub AreFilledRows : Form → List Example → Ground → List Example → List Fields → ℕ → List Fields → Type 0
AreFilledRows form typed g examples records n made = AllZip (IsFilledRow form typed g examples records) (range_with_len 1 n) made

-- the head was written, and the records of the first n rows
abbrev pub WritesRows : Form → List Example → Ground → List Example → List Fields → List ℕ → ℕ → Option (List ℕ) → Option (List ℕ) → Type 0
WritesRows form typed g examples records head n old new =
    (made : List Fields) × AreFilledRows form typed g examples records n made × Appends old new (head ++ report_text made)

-- a proper prefix of the head and of the records of the first n rows was written
abbrev pub WritesPart : Form → List Example → Ground → List Example → List Fields → List ℕ → ℕ → Option (List ℕ) → Option (List ℕ) → Type 0
WritesPart form typed g examples records head n old new =
    (made : List Fields) × AreFilledRows form typed g examples records n made × AppendsPart old new (head ++ report_text made)
