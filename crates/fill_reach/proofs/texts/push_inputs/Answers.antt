use Rattle.std.proofs.Common.{map, get_or}
use Rattle.std.proofs.lemmas.Option.{slice_get-get_or}
use Rattle.fill_reach.proofs.StepLaws.{inputs_more, inputs_all}
use Rattle.fill_reach.proofs.texts.push_inputs.Goals as goal

pub loop-column-preserved : goal.loop-column-preserved
loop-column-preserved c =
    let inputs = c.inputs-column-items.result.now in
    let i = c.loop-column.column-index in
    inputs_more c.args.sheet.now c.args.row inputs i (get_or inputs i 0) c.cell.result.now (map (λ text. text.now) c.args.texts.now.items) (map (λ text. text.now) c.loop-column.texts.items)
    (map (λ text. text.now) c.push_text.new.texts.items) (slice_get-get_or inputs i 0 c.loop-column-test.true) (c.type_inv.column-items i).fits c.cell.ensures c.loop-column.invariant c.in_ok-push_text.ensures

pub returns : goal.returns
returns c =
    inputs_all c.args.sheet.now c.args.row c.inputs-column-items.result.now c.loop-column.column-index (map (λ text. text.now) c.args.texts.now.items) (map (λ text. text.now) c.loop-column.texts.items)
    c.inputs-column-items.ensures c.loop-column-test.false c.loop-column.invariant
