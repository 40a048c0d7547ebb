-- The records of first rows, after the head.
use Rattle.std.proofs.Common.{◌≡◌, ℕ, ◌-◌, ◌<◌, ◌≤◌, List, [], length, replicate, Option, None, Some, Result, Ok, Err, Bool, true, false, refl, sym, subst, arith, append-nil, length-append}
use Rattle.std.specs.Prelude.{◌||◌, IfSome, OnOk}
use Rattle.std.proofs.lemmas.List.{length-replicate, length-set}
use Rattle.std.specs.Io.KnownBytes.{Appends}
use Rattle.std.proofs.KnownBytes.{Appends-nil, Appends-trans}
use Rattle.fill_edge.specs.Outside.{AppendsPart}
use Rattle.fill_tree.specs.declared.user.Example.{Example}
use Rattle.fill_space.specs.declared.ground.Ground.{Ground}
use Rattle.fill_output.specs.Fields.{report_text}
use Rattle.fill_output.specs.Fields.{Fields}
use Rattle.fill_output.proofs.Bytes.{appends_part_after}
use Rattle.fill_session.specs.declared.answer.Answer.{Answer}
use Rattle.fill_states.specs.States.{state_name}
use Rattle.fillcsv_columns.specs.Fields.{padded, with_field}
use Rattle.fillcsv_rows.specs.Learned.{given_by}
use Rattle.fillcsv_rows.specs.Filled.{TellsUnsure, WritesPart, WritesRows, cell_of, cell_state, filled_fields, with_answer, with_word}
use Rattle.fillcsv_rows.specs.declared.form.Form.{Form}

-- what follows where a call succeeds
pub when_ok : {A E P Q : Type 0} (r : Result A E) → (P → Q) → OnOk r P → OnOk r Q
when_ok (Ok x) f p = f p
when_ok (Err e) f p = tt

-- a record with a field in some column is not empty
some_field : (column : ℕ) (field : List ℕ) (fields : Fields) → 1 ≤ column → 0 < length (with_field column field fields)
some_field column field fields first =
    let none : List ℕ = [] in
    let size = length-set (padded column fields) (column - 1) field in
    let pad = length-append fields (replicate (column - length fields) none) in
    let count = length-replicate (column - length fields) none in
    omega (arith, first, size, pad, count)

some_word : (states : Option ℕ) (word : List ℕ) (fields : Fields) → 0 < length fields → IfSome states (λ column. 1 ≤ column) → 0 < length (with_word states word fields)
some_word None word fields some first = some
some_word (Some column) word fields some first = some_field column word fields first

-- so a row's record is not
pub some_filled : (form : Form) (typed cell : Option (List ℕ)) (a : Answer) (fields : Fields) → 1 ≤ form.column → IfSome form.states (λ column. 1 ≤ column)
    → 0 < length (filled_fields form typed cell a fields)
some_filled form typed cell a fields column states =
    some_word form.states (state_name (cell_state (given_by typed cell) a)) (with_answer form typed cell a fields) (some_field form.column (cell_of form typed cell a fields) fields column) states

or_false : (b : Bool) → (b || false) ≡ b
or_false true = refl
or_false false = refl

module _ (form : Form) (typed : List Example) (g : Ground) (examples : List Example) (records : List Fields) (old : Option (List ℕ)) where
  pub rows_none : WritesRows form typed g examples records [] 0 old old
  rows_none = ([], tt, Appends-nil old)

  -- the rows after the head
  pub head_rows : (mid new : Option (List ℕ)) (head : List ℕ) (n : ℕ) → Appends old mid head → WritesRows form typed g examples records [] n mid new → WritesRows form typed g examples records head n old new
  head_rows mid new head n before w = (w.0, w.1, Appends-trans old mid new head (report_text w.0) before w.2)

  pub head_rows_part : (mid new : Option (List ℕ)) (head : List ℕ) (n : ℕ) → Appends old mid head → WritesPart form typed g examples records [] n mid new → WritesPart form typed g examples records head n old new
  head_rows_part mid new head n before w = (w.0, w.1, appends_part_after old mid new head (report_text w.0) before w.2)

  -- a part of the head
  pub head_part : (new : Option (List ℕ)) (head : List ℕ) → AppendsPart old new head → WritesPart form typed g examples records head 0 old new
  head_part new head part = ([], tt, subst (λ (l : List ℕ). AppendsPart old new l) (sym (append-nil head)) part)

-- whether a cell so far is neither given nor sure
module _ (typed : List Example) (g : Ground) (examples : List Example) (before : Bool) where
  pub states_none : TellsUnsure typed g examples 0 before before
  states_none = ([], tt, sym (or_false before))
