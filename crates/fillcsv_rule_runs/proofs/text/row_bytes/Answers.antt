use Rattle.std.proofs.Common.{◌<◌, ◌≤◌, arith, length}
use Rattle.csv.specs.Records.{fields_of}
use Rattle.fillcsv_columns.specs.Fields.{with_field}
use Rattle.fillcsv_rule_runs.proofs.RowFields.{length-with_field}
use Rattle.fill_sheet.proofs.Texts.{row_more, row_whole}
use Rattle.fillcsv_rule_runs.proofs.text.row_bytes.Goals as goal

pub loop-i-preserved : goal.loop-i-preserved
loop-i-preserved c =
    let rows = with_field c.args.column c.args.field.now (fields_of c.args.row.now) in
    let size = length-with_field c.args.column c.args.field.now (fields_of c.args.row.now) in
    let lt : c.loop-i.i < length rows = omega (arith, size, c.loop-i-test.true, c.max-width.ensures, c.len.ensures) in
    row_more rows c.loop-i.i c.other_field.result.now c.loop-i.text c.push_sep.new.to c.push_field.new.to lt c.other_field.ensures c.loop-i.invariant
    c.in_ok-push_sep.ensures c.in_ok-push_field.ensures

pub returns : goal.returns
returns c =
    let rows = with_field c.args.column c.args.field.now (fields_of c.args.row.now) in
    let size = length-with_field c.args.column c.args.field.now (fields_of c.args.row.now) in
    let past : length rows ≤ c.loop-i.i = omega (arith, size, c.loop-i-test.false, c.max-width.ensures, c.len.ensures) in
    row_whole rows c.loop-i.i c.loop-i.text c.push_end.new.to past c.loop-i.invariant c.in_ok-push_end.ensures
