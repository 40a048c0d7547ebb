use Rattle.std.proofs.Common.{◌≡◌, ◌∙◌, ◌<◌, ◌≤◌, [], get_or, length, arith}
use Rattle.std.proofs.lemmas.List.{get_or_default}
use Rattle.fill_sheet.proofs.Texts.{row_more, row_whole}
use Rattle.fill_sheet.proofs.report.record_bytes.Goals as goal

pub loop-i-preserved : goal.loop-i-preserved
loop-i-preserved c =
    let lt : c.loop-i.i < length c.args.fields.now = c.loop-i-test.true in
    let here : c.as_slice.result.now ≡ get_or c.args.fields.now c.loop-i.i [] = c.as_slice.ensures ∙ c.index-fields-i.is ∙ get_or_default c.args.fields.now c.loop-i.i c.index-fields-i.result [] lt in
    row_more c.args.fields.now c.loop-i.i c.as_slice.result.now c.loop-i.text c.push_sep.new.to c.push_field.new.to lt here c.loop-i.invariant
    c.in_ok-push_sep.ensures c.in_ok-push_field.ensures

pub returns : goal.returns
returns c =
    let past : length c.args.fields.now ≤ c.loop-i.i = omega (arith, c.loop-i-test.false) in
    row_whole c.args.fields.now c.loop-i.i c.loop-i.text c.push_end.new.to past c.loop-i.invariant c.in_ok-push_end.ensures
