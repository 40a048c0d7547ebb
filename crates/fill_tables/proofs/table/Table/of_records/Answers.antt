use Rattle.std.proofs.Common.{◌≤◌, ◌∙◌, sym, arith, length}
use Rattle.std.proofs.lemmas.List.{length-take}
use Rattle.fill_records.proofs.Texts.{texts_from_no_bad}
use Rattle.fill_tables.specs.Reading.{columns_to}
use Rattle.fill_tables.proofs.Fields.{columns_counted, width_of-narrow}
use Rattle.fill_tables.proofs.Decisions.{made-table, table_of-bad, table_of-many, table_of-rows}
use Rattle.fill_tables.proofs.table.Table.of_records.Goals as goal

pub columns_to-requires : goal.columns_to-requires
columns_to-requires c = rw c.width_of-width.ensures (width_of-narrow c.first_records-kept.result.now)

pub first_bad-requires-clause-fits : goal.first_bad-requires-clause-fits
first_bad-requires-clause-fits c = rw c.first_records-kept.ensures (omega (arith, length-take 2000 c.args.records.now))

pub first_bad-requires-clause-columns : goal.first_bad-requires-clause-columns
first_bad-requires-clause-columns c = rw (c.deref.ensures.value, c.in_ok-columns.ensures) (columns_counted c.width_of-width.result)

pub returns-in-Some-clause-err : goal.returns-in-Some-clause-err
returns-in-Some-clause-err c =
    let bad = rw (c.deref.ensures.value, c.in_ok-columns.ensures, c.width_of-width.ensures, c.first_records-kept.ensures) at c.in-Some.ensures in
    λ _. table_of-bad c.args.name c.args.records.now c.in-Some.number c.in-Some.column (sym bad)

pub returns-then-records-gt-MOST_TABLE_ROWS-clause-err : goal.returns-then-records-gt-MOST_TABLE_ROWS-clause-err
returns-then-records-gt-MOST_TABLE_ROWS-clause-err c =
    let none = rw (c.deref.ensures.value, c.in_ok-columns.ensures, c.width_of-width.ensures, c.first_records-kept.ensures) at (sym c.in_default.is ∙ c.first_bad.ensures) in
    λ _. table_of-many c.args.name c.args.records.now (sym none) c.if-records-gt-MOST_TABLE_ROWS.true

pub rows_of-requires-clause-columns : goal.rows_of-requires-clause-columns
rows_of-requires-clause-columns c = rw (c.deref-2.ensures.value, c.in_ok-columns.ensures) (columns_counted c.width_of-width.result)

pub rows_of-requires-clause-text : goal.rows_of-requires-clause-text
rows_of-requires-clause-text c =
    let none = rw (c.deref.ensures.value, c.in_ok-columns.ensures) at (sym c.in_default.is ∙ c.first_bad.ensures) in
    rw (c.deref-2.ensures.value, c.in_ok-columns.ensures) (texts_from_no_bad (columns_to c.width_of-width.result) 1 c.first_records-kept.result.now (sym none))

pub invariant_of-result : goal.invariant_of-result
invariant_of-result c =
    let rows = rw (c.deref-2.ensures.value, c.in_ok-columns.ensures, c.width_of-width.ensures) at c.in_ok-rows.ensures in
    let few : length c.first_records-kept.result.now ≤ 2000 = rw c.first_records-kept.ensures (omega (arith, length-take 2000 c.args.records.now)) in
    rw (c.new.ensures.items, rows, c.width_of-width.ensures) (made-table c.args.name c.first_records-kept.result.now few, λ k d lt. absurd (omega arith))

pub returns-clause-ok : goal.returns-clause-ok
returns-clause-ok c =
    let none = rw (c.deref.ensures.value, c.in_ok-columns.ensures, c.width_of-width.ensures, c.first_records-kept.ensures) at (sym c.in_default.is ∙ c.first_bad.ensures) in
    let rows = rw (c.deref-2.ensures.value, c.in_ok-columns.ensures, c.width_of-width.ensures, c.first_records-kept.ensures) at c.in_ok-rows.ensures in
    rw (c.new.ensures.items, rows, c.width_of-width.ensures, c.first_records-kept.ensures) (table_of-rows c.args.name c.args.records.now (sym none) c.if-records-gt-MOST_TABLE_ROWS.false)

pub returns-clause-shape : goal.returns-clause-shape
returns-clause-shape c =
    let rows = rw (c.deref-2.ensures.value, c.in_ok-columns.ensures, c.width_of-width.ensures) at c.in_ok-rows.ensures in
    let few : length c.first_records-kept.result.now ≤ 2000 = rw c.first_records-kept.ensures (omega (arith, length-take 2000 c.args.records.now)) in
    rw (c.new.ensures.items, rows, c.width_of-width.ensures) (made-table c.args.name c.first_records-kept.result.now few)
