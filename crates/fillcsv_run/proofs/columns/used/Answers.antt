use Rattle.std.proofs.Common.{◌≡◌, ◌++◌, ◌∙◌, ◌∷◌, ◌<◌, [], All, List, None, Option, Some, ℕ, append-nil, arith, option_to_list, refl, subst, sym}
use Rattle.std.proofs.lemmas.List.Elements.{All-append, All-cons, All-nil}
use Rattle.std.proofs.lemmas.Result.{IfOk-weaker}
use Rattle.fill_sheet.specs.Columns.{IsColumn, IsOutput}
use Rattle.fillcsv_run.proofs.columns.used.Goals as goal
use Rattle.fillcsv_run.proofs.columns.used.Goals.{in-Some+in_ok-push, in_default}

all_columns : (inputs : List ℕ) (output : Option ℕ) → All IsColumn inputs → IsOutput inputs output → All IsColumn (inputs ++ option_to_list output)
all_columns inputs None columns is = All-append IsColumn inputs [] columns (All-nil IsColumn)
all_columns inputs (Some output) columns is = All-append IsColumn inputs (output ∷ []) columns (All-cons IsColumn output [] is.0 (All-nil IsColumn))

counted : (columns : List ℕ) → All IsColumn columns → All (λ column. 0 < column) columns
counted columns are k d lt = let here = are k d lt in omega (arith, here.first)

pub rising-requires : goal.rising-requires
rising-requires c =
    let items : c.match-output.columns.items ≡ c.args.inputs.now ++ option_to_list c.args.output = elim c.match-output.branch [
      | in-Some+in_ok-push w ↦ rw (w.columns-is, w.in_ok-push.ensures.items, c.in_ok-columns.ensures.items, w.in-Some.is) refl
      | in_default w ↦ rw (w.columns-is, c.in_ok-columns.ensures.items, w.in_default.is) (sym (append-nil c.args.inputs.now))
    ] in
    subst (All IsColumn) (sym (c.deref.ensures.value ∙ items)) (all_columns c.args.inputs.now c.args.output c.requires.inputs c.requires.output)

pub returns-clause-value : goal.returns-clause-value
returns-clause-value c =
    let items : c.match-output.columns.items ≡ c.args.inputs.now ++ option_to_list c.args.output = elim c.match-output.branch [
      | in-Some+in_ok-push w ↦ rw (w.columns-is, w.in_ok-push.ensures.items, c.in_ok-columns.ensures.items, w.in-Some.is) refl
      | in_default w ↦ rw (w.columns-is, c.in_ok-columns.ensures.items, w.in_default.is) (sym (append-nil c.args.inputs.now))
    ] in
    rw (c.deref.ensures.value, items) at c.rising.ensures.value

pub returns-clause-counted : goal.returns-clause-counted
returns-clause-counted c = IfOk-weaker c.rising.result _ _ (λ v. counted v.items) c.rising.ensures.columns
