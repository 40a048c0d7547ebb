use Rattle.std.proofs.Common.{◌≡◌, ◌≢◌, ◌∙◌, ap, subst, IfOk, IfErr, Ok, Err, Result, List, ℕ}
use Rattle.fill_text.specs.Data.{SheetData}
use Rattle.fill_sheet.specs.declared.error.SheetError.{SheetError}
use Rattle.fill_sheet.specs.declared.error.SheetError.TheVariants.{NoMemory}
use Rattle.fill_sheet.specs.Sheet.{read_up_to, sheet_of}
use Rattle.fill_sheet.proofs.Decisions.{sheet_of-take}
use Rattle.fill_sheet.proofs.sheet.Sheet.read_up_to.Goals as goal

pub returns-clause-ok : goal.returns-clause-ok
unfolding read_up_to
returns-clause-ok c =
    let whole = ap (λ (records : List (List (List ℕ))). sheet_of c.args.most c.args.header c.args.inputs.now c.args.output records) (c.as_slice.ensures ∙ c.in_ok-records.ensures) ∙ sheet_of-take c.args.most c.args.header c.args.inputs.now c.args.output _ in
    subst (λ (made : Result SheetData SheetError). IfOk c.of_records.result (λ sheet. made ≡ Ok sheet)) whole c.of_records.ensures.ok

pub returns-clause-err : goal.returns-clause-err
unfolding read_up_to
returns-clause-err c =
    let whole = ap (λ (records : List (List (List ℕ))). sheet_of c.args.most c.args.header c.args.inputs.now c.args.output records) (c.as_slice.ensures ∙ c.in_ok-records.ensures) ∙ sheet_of-take c.args.most c.args.header c.args.inputs.now c.args.output _ in
    subst (λ (made : Result SheetData SheetError). IfErr c.of_records.result (λ e. e ≢ NoMemory → made ≡ Err e)) whole c.of_records.ensures.err
