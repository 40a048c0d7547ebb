use Rattle.std.proofs.Common.{◌+◌, arith}
use Rattle.fill_reach.proofs.StepLaws.{key_more, key_all}
use Rattle.fill_reach.proofs.rows.push_table.Goals as goal

pub loop-key-preserved : goal.loop-key-preserved
loop-key-preserved c =
    key_more c.args.tables.now c.args.table c.loop-key.key c.args.rows.now.items c.loop-key.rows.items c.push_rows.new.rows.items c.loop-key.invariant c.in_ok-push_rows.ensures

pub returns : goal.returns
returns c = key_all c.args.tables.now c.args.table c.loop-key.key c.loop-key.key c.args.rows.now.items c.loop-key.rows.items (omega arith) c.loop-key.invariant

pub returns-in_ok-push_rows : goal.returns-in_ok-push_rows
returns-in_ok-push_rows c =
    key_all c.args.tables.now c.args.table c.loop-key.key (c.loop-key.key + 1) c.args.rows.now.items c.push_rows.new.rows.items (omega arith)
    (key_more c.args.tables.now c.args.table c.loop-key.key c.args.rows.now.items c.loop-key.rows.items c.push_rows.new.rows.items c.loop-key.invariant c.in_ok-push_rows.ensures)
