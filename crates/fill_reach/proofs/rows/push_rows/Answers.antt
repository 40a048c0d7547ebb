use Rattle.std.proofs.Common.{◌+◌, arith}
use Rattle.fill_reach.proofs.StepLaws.{row_none, row_more, row_all}
use Rattle.fill_reach.proofs.rows.push_rows.Goals as goal

pub returns-then-not-leaves_free : goal.returns-then-not-leaves_free
returns-then-not-leaves_free c =
    row_none c.args.tables.now c.args.table c.args.key c.args.rows.now.items (λ free. let is = c.leaves_free.ensures.1 free in let not' = c.if-not-leaves_free.true in cc)

pub loop-row-preserved : goal.loop-row-preserved
loop-row-preserved c =
    row_more c.args.tables.now c.args.table c.args.key c.loop-row.row c.args.rows.now.items c.loop-row.rows.items c.push.new.self.items c.requires.keyed (c.leaves_free.ensures.0 c.if-not-leaves_free.false)
    (omega arith) (omega arith) c.in_ok-push.ensures.items c.loop-row.invariant

pub returns-else-not-leaves_free : goal.returns-else-not-leaves_free
returns-else-not-leaves_free c =
    row_all c.args.tables.now c.args.table c.args.key c.loop-row.row c.args.rows.now.items c.loop-row.rows.items (omega arith) c.loop-row.invariant

pub returns-in_ok-push : goal.returns-in_ok-push
returns-in_ok-push c =
    row_all c.args.tables.now c.args.table c.args.key (c.loop-row.row + 1) c.args.rows.now.items c.push.new.self.items (omega arith)
    (row_more c.args.tables.now c.args.table c.args.key c.loop-row.row c.args.rows.now.items c.loop-row.rows.items c.push.new.self.items c.requires.keyed (c.leaves_free.ensures.0 c.if-not-leaves_free.false)
    (omega arith) (omega arith) c.in_ok-push.ensures.items c.loop-row.invariant)
