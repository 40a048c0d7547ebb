use Rattle.std.proofs.Common.{◌∙◌, sym, arith}
use Rattle.fill_sheet.proofs.Rising.{rising-permutation}
use Rattle.fill_sheet.proofs.Decisions.{sheet_of-bad, sheet_of-many, sheet_of-rows, row_records-few, headers-few, used-counted, rising-columns, texts-of-rows, made-sheet}
use Rattle.fill_sheet.proofs.sheet.Sheet.of_records.Goals as goal

pub first_bad-requires-clause-fits : goal.first_bad-requires-clause-fits
first_bad-requires-clause-fits c =
    let few = row_records-few c.args.most c.args.header c.args.records.now in
    let first = headers-few c.args.header in
    rw (c.row_records-rows.ensures, c.first_number.ensures) (omega (arith, first, few, c.requires.most))

pub first_bad-requires-clause-columns : goal.first_bad-requires-clause-columns
first_bad-requires-clause-columns c = rw (c.deref.ensures.value, c.in_ok-columns.ensures) (used-counted c.args.inputs.now c.args.output c.requires.inputs.columns c.requires.output)

pub returns-in-Some-clause-err : goal.returns-in-Some-clause-err
returns-in-Some-clause-err c =
    let bad = rw (c.deref.ensures.value, c.in_ok-columns.ensures, c.row_records-rows.ensures, c.first_number.ensures) at c.in-Some.ensures in
    λ _. sheet_of-bad c.args.most c.args.header c.args.inputs.now c.args.output c.args.records.now c.in-Some.number c.in-Some.column (sym bad)

pub returns-then-records-most_records-clause-err : goal.returns-then-records-most_records-clause-err
returns-then-records-most_records-clause-err c =
    let none = rw (c.deref.ensures.value, c.in_ok-columns.ensures, c.row_records-rows.ensures, c.first_number.ensures) at (sym c.in_default.is ∙ c.first_bad.ensures) in
    λ _. sheet_of-many c.args.most c.args.header c.args.inputs.now c.args.output c.args.records.now (sym none) c.if-records-most_records.true

pub rows_of-requires-clause-inputs : goal.rows_of-requires-clause-inputs
rows_of-requires-clause-inputs c = rw (c.deref-2.ensures.value, c.in_ok-inputs.ensures) (rising-columns c.args.inputs.now c.requires.inputs.columns)

pub rows_of-requires-clause-text : goal.rows_of-requires-clause-text
rows_of-requires-clause-text c =
    let none = rw (c.deref.ensures.value, c.in_ok-columns.ensures, c.row_records-rows.ensures, c.first_number.ensures) at (sym c.in_default.is ∙ c.first_bad.ensures) in
    rw (c.deref-2.ensures.value, c.in_ok-inputs.ensures, c.row_records-rows.ensures) (texts-of-rows c.args.most c.args.header c.args.inputs.now c.args.output c.args.records.now (sym none))

pub invariant_of-result : goal.invariant_of-result
invariant_of-result c =
    let rows = rw (c.deref-2.ensures.value, c.in_ok-inputs.ensures, c.row_records-rows.ensures) at c.in_ok-rows.ensures in
    rw (c.in_ok-inputs.ensures, rows) (made-sheet c.args.most c.args.header c.args.inputs.now c.args.output c.args.records.now c.requires.most c.requires.inputs)

pub returns-clause-ok : goal.returns-clause-ok
returns-clause-ok c =
    let none = rw (c.deref.ensures.value, c.in_ok-columns.ensures, c.row_records-rows.ensures, c.first_number.ensures) at (sym c.in_default.is ∙ c.first_bad.ensures) in
    let rows = rw (c.deref-2.ensures.value, c.in_ok-inputs.ensures, c.row_records-rows.ensures) at c.in_ok-rows.ensures in
    rw (c.in_ok-inputs.ensures, rows) (sheet_of-rows c.args.most c.args.header c.args.inputs.now c.args.output c.args.records.now (sym none) c.if-records-most_records.false)

pub returns-clause-inputs : goal.returns-clause-inputs
returns-clause-inputs c = rw c.in_ok-inputs.ensures (rising-permutation c.args.inputs.now)

pub returns-clause-shape : goal.returns-clause-shape
returns-clause-shape c =
    let rows = rw (c.deref-2.ensures.value, c.in_ok-inputs.ensures, c.row_records-rows.ensures) at c.in_ok-rows.ensures in
    rw (c.in_ok-inputs.ensures, rows) (made-sheet c.args.most c.args.header c.args.inputs.now c.args.output c.args.records.now c.requires.most c.requires.inputs)
