use Rattle.fillcsv_options.specs.Words.{data_of}
use Rattle.fillcsv_run.proofs.Rows.{rows_of_sheet, sheet_refused}
use Rattle.fillcsv_run.proofs.opening.rows_in.Goals as goal

pub returns-in-Ok-None-clause-rows : goal.returns-in-Ok-None-clause-rows
returns-in-Ok-None-clause-rows g c = λ bytes pass seen.
    rows_of_sheet (data_of c.args.asked.now) bytes c.args.choice.now c.args.seen.now seen c.rows_of.result c.examples_in.result
    (rw c.in-Ok-None.field-0-is at (c.in-Ok-None.ensures bytes pass seen)) c.rows_of.ensures c.examples_in.ensures.ready c.examples_in.ensures.stopped

pub returns-in-Ok-Some-clause-rows : goal.returns-in-Ok-Some-clause-rows
returns-in-Ok-Some-clause-rows g c = λ bytes pass seen.
    sheet_refused (data_of c.args.asked.now) bytes c.args.choice.now c.in-Ok-Some.e c.sheet_line.result c.refused.result
    (rw c.in-Ok-Some.field-0-is at (c.in-Ok-Some.ensures bytes pass seen)) (rw c.as_str.ensures.value at c.sheet_line.ensures.line) c.refused.ensures
