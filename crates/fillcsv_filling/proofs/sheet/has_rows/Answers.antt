use Rattle.std.proofs.Common.{All, Contains, arith, subst, length, ◌≤◌}
use Rattle.std.proofs.lemmas.List.{take_all}
use Rattle.std.proofs.lemmas.List.Elements.{All-more}
use Rattle.fillcsv_blocks.specs.declared.numbered.Numbered.{Numbered}
use Rattle.fillcsv_filling.proofs.Standing.{has_number}
use Rattle.fillcsv_filling.proofs.sheet.has_rows.Goals as goal

pub loop-row-preserved : goal.loop-row-preserved
loop-row-preserved c =
    let Has = λ (it : Numbered). Contains c.args.block.now.numbers it.number in
    let row = c.row-item.result in
    let here = has_number c.args.block.now row.number c.row.result c.row.ensures c.if-is_none.ensures in
    All-more Has c.args.rows.now c.loop-row.row-index row c.loop-row-test.true c.loop-row.invariant (subst Has c.row-item.is here)

pub returns : goal.returns
returns c = λ yes.
    let Has = λ (it : Numbered). Contains c.args.block.now.numbers it.number in
    let past : length c.args.rows.now ≤ c.loop-row.row-index = omega arith in
    subst (All Has) (take_all c.loop-row.row-index c.args.rows.now past) c.loop-row.invariant
