use Rattle.std.proofs.Common.{◌≡◌, ◌+◌, suc, [], false, sym, arith}
use Rattle.fill_doubt.specs.Answers.{TextsHave}
use Rattle.fill_doubt.specs.Rows.{Find, IsText}
use Rattle.fill_doubt.proofs.Covered.{covers_same}
use Rattle.fill_doubt.proofs.Keyed.{find_key, rows_end, rows_more, rows_start}
use Rattle.fill_doubt.proofs.rows.put_rows.Goals as goal

pub returns-in_default : goal.returns-in_default
returns-in_default c =
    covers_same IsText (TextsHave c.args.found.now) (Find c.args.look.now [] false c.args.conditions.now)
    (λ o v r. absurd (find_key c.args.look.now c.args.conditions.now o v r (sym c.in_default.ensures.key)))

pub loop-i-init : goal.loop-i-init
loop-i-init c = rows_start c.args.look.now c.args.conditions.now (TextsHave c.args.found.now)

pub loop-i-preserved : goal.loop-i-preserved
loop-i-preserved c =
    let i = c.loop-i.i in
    let next : i + 1 + 1 ≡ suc (i + 1) = omega arith in
    rows_more c.args.look.now c.args.conditions.now (TextsHave c.args.found.now) (TextsHave c.loop-i.found) (TextsHave c.put_row.new.found) (i + 1) (i + 1 + 1) next c.loop-i.invariant c.in_ok-put_row.ensures

pub returns : goal.returns
returns c =
    let past = c.loop-i-test.false in
    let n = c.rows-i-end.ensures in
    rows_end c.args.look.now c.args.conditions.now (TextsHave c.args.found.now) (TextsHave c.loop-i.found) (c.loop-i.i + 1) (omega arith) c.loop-i.invariant
