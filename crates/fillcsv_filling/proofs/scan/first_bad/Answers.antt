use Rattle.std.proofs.Common.{◌≡◌, ◌+◌, List, None, Some, drop, refl}
use Rattle.fill_records.specs.Texts.{first_bad}
use Rattle.fill_output.specs.Fields.{Fields}
use Rattle.fill_sheet.specs.Sheet.{headers, row_records}
use Rattle.fill_passes.proofs.Known.{if_some}
use Rattle.fillcsv_filling.proofs.Passed.{left_told, next_told}
use Rattle.fillcsv_filling.proofs.Scanned.{bad_here, good_more, none_bad}
use Rattle.fillcsv_filling.proofs.scan.first_bad.Goals as goal

pub returns-in-Some : goal.returns-in-Some
returns-in-Some g c =
    let here = c.loop-n.invariant in
    let n = c.loop-n.n in
    let columns = c.args.columns.now in
    let bad = λ (all : List Fields). first_bad columns (headers c.args.header + 1) (row_records c.args.most c.args.header all) in
    if_some (λ (all : List Fields). Some (c.loop-n.n + 1, c.in-Some.column) ≡ first_bad c.args.columns.now (headers c.args.header + 1) (row_records c.args.most c.args.header all)) c.args.pass.now
    (λ all told. bad_here columns n c.args.most c.in-Some.column all (drop n all) c.in-Ok-Some.field-0 c.in-Ok-Some.fields (bad all) c.loop-n-test.true refl
    (next_told n all c.loop-n.pass (here.left all told) c.in-Ok-Some.field-0 c.in-Ok-Some.ensures.found) c.in-Ok-Some.field-0-is (here.none all told) c.in-Some.ensures)

pub returns-in-Ok-None : goal.returns-in-Ok-None
returns-in-Ok-None g c =
    let here = c.loop-n.invariant in
    let n = c.loop-n.n in
    let columns = c.args.columns.now in
    let bad = λ (all : List Fields). first_bad columns (headers c.args.header + 1) (row_records c.args.most c.args.header all) in
    if_some (λ (all : List Fields). None ≡ first_bad c.args.columns.now (headers c.args.header + 1) (row_records c.args.most c.args.header all)) c.args.pass.now
    (λ all told. none_bad columns n c.args.most all (drop n all) c.in-Ok-None.field-0 (bad all) refl
    (next_told n all c.loop-n.pass (here.left all told) c.in-Ok-None.field-0 c.in-Ok-None.ensures.found) c.in-Ok-None.field-0-is (here.none all told))

pub loop-n-preserved : goal.loop-n-preserved
loop-n-preserved g c =
    let here = c.loop-n.invariant in
    let n = c.loop-n.n in
    let columns = c.args.columns.now in
    let bad = λ (all : List Fields). first_bad columns (headers c.args.header + 1) (row_records c.args.most c.args.header all) in
    record {
      left = λ all told. left_told n all c.loop-n.pass (here.left all told) c.next.new.self c.in-Ok-Some.ensures.left;
      none = λ all told.
          good_more columns n c.args.most all (drop n all) c.in-Ok-Some.field-0 c.in-Ok-Some.fields (bad all) c.loop-n-test.true refl
          (next_told n all c.loop-n.pass (here.left all told) c.in-Ok-Some.field-0 c.in-Ok-Some.ensures.found) c.in-Ok-Some.field-0-is (here.none all told) c.in_default.ensures;
    }
