use Rattle.std.proofs.Common.{◌≡◌, ◌∙◌, ◌+◌, sym}
use Rattle.fill_passes.proofs.Known.{when_some}
use Rattle.fill_records.specs.Records.{records_of}
use Rattle.fill_records.specs.Texts.{first_bad}
use Rattle.fill_sheet.specs.Sheet.{headers, row_records}
use Rattle.fill_sheet.proofs.Decisions.{bad_in}
use Rattle.fillcsv_run.specs.Opening.{most_records, output_of}
use Rattle.fillcsv_run.proofs.Rows.{bad_field, counted_rows}
use Rattle.fillcsv_run.proofs.opening.sheet_error.Goals as goal

pub returns-in-Ok-Some : goal.returns-in-Ok-Some
returns-in-Ok-Some g c = λ bytes pass seen.
    let header = c.args.asked.now.header in
    let inputs = c.args.choice.now.from.items in
    let output = output_of c.args.asked.now.replace c.args.choice.now.to in
    let known = when_some (λ records. c.in-Ok-Some.field-0 ≡ first_bad c.deref-2.result.now (headers header + 1) (row_records most_records header records)) c.args.pass.now (records_of bytes) pass c.in-Ok-Some.ensures in
    let found : c.in-Ok-Some.field-0 ≡ bad_in most_records header inputs output (records_of bytes) = rw (c.deref-2.ensures.value, c.in-Ok.ensures.value, c.deref.ensures.value, c.output_of.ensures) at known in
    bad_field most_records header inputs output bytes c.in-Ok-Some.number c.in-Ok-Some.column (sym found ∙ c.in-Ok-Some.field-0-is)

pub returns-in-Ok-None : goal.returns-in-Ok-None
returns-in-Ok-None g c = λ bytes pass seen.
    let header = c.args.asked.now.header in
    let inputs = c.args.choice.now.from.items in
    let output = output_of c.args.asked.now.replace c.args.choice.now.to in
    let known = when_some (λ records. c.in-Ok-None.field-0 ≡ first_bad c.deref-2.result.now (headers header + 1) (row_records most_records header records)) c.args.pass.now (records_of bytes) pass c.in-Ok-None.ensures in
    let found : c.in-Ok-None.field-0 ≡ bad_in most_records header inputs output (records_of bytes) = rw (c.deref-2.ensures.value, c.in-Ok.ensures.value, c.deref.ensures.value, c.output_of.ensures) at known in
    counted_rows header inputs output bytes c.args.seen.now.more c.too_many.result (sym found ∙ c.in-Ok-None.field-0-is) seen.others c.too_many.ensures
