use Rattle.std.proofs.Common.{◌+◌, arith}
use Rattle.fill_reach.proofs.StepLaws.{taken_more, taken_all}
use Rattle.fill_reach.proofs.rows.leaves_free.Goals as goal

pub loop-column-preserved : goal.loop-column-preserved
loop-column-preserved c =
    taken_more c.args.tables.now c.args.table c.args.key c.loop-column.column (λ free. let is = c.is_free.ensures.1 free in let not' = c.if-is_free.false in cc) c.loop-column.invariant

pub returns-else-is_free : goal.returns-else-is_free
returns-else-is_free c =
    let none = taken_more c.args.tables.now c.args.table c.args.key c.loop-column.column (λ free. let is = c.is_free.ensures.1 free in let not' = c.if-is_free.false in cc) c.loop-column.invariant in
    ((λ e. cc), (λ h. absurd (taken_all c.args.tables.now c.args.table c.args.key (c.loop-column.column + 1) c.width-column-end.result c.width-column-end.ensures (omega arith) none h)))
