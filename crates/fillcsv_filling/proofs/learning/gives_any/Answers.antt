use Rattle.std.proofs.Common.{◌≤◌, All, arith, length, subst, sym}
use Rattle.std.proofs.lemmas.List.{take_all}
use Rattle.std.proofs.lemmas.List.Elements.{All-more, All-nil}
use Rattle.fillcsv_filling.specs.Long.{long_of}
use Rattle.fillcsv_filling.specs.Rows.{GivesNone, IsRow}
use Rattle.fillcsv_filling.proofs.learning.gives_any.Goals as goal

pub loop-row-init : goal.loop-row-init
loop-row-init c = λ bytes long there. All-nil (GivesNone (long_of bytes c.args.sheet.now))

pub loop-row-preserved : goal.loop-row-preserved
loop-row-preserved c = λ bytes long there.
    let s = long_of bytes c.args.sheet.now in
    let row = c.row-item.result in
    let is = there c.loop-row.row-index row c.loop-row-test.true in
    All-more (GivesNone s) c.args.rows.now c.loop-row.row-index row c.loop-row-test.true (c.loop-row.invariant bytes long there)
    (subst (GivesNone s) c.row-item.is (c.gives.ensures bytes long (subst (IsRow s) (sym c.row-item.is) is) c.if-gives.false))

pub returns : goal.returns
returns c = λ bytes long there none.
    let None = GivesNone (long_of bytes c.args.sheet.now) in
    let past : length c.args.rows.now ≤ c.loop-row.row-index = omega arith in
    subst (All None) (take_all c.loop-row.row-index c.args.rows.now past) (c.loop-row.invariant bytes long there)
