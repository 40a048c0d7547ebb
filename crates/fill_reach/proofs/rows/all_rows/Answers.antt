use Rattle.std.proofs.Common.{◌+◌, arith}
use Rattle.fill_reach.specs.Spots.{AddsRows, IsSpot}
use Rattle.fill_reach.proofs.StepLaws.{table_more, table_all, all_spots, all_unmarked}
use Rattle.fill_reach.proofs.rows.all_rows.Goals.{else-loop-table-test, then-loop-table-test+in_ok-push_table+else-table-table-end}
use Rattle.fill_reach.proofs.rows.all_rows.Goals as goal

pub loop-table-preserved : goal.loop-table-preserved
loop-table-preserved c =
    table_more c.args.tables.now c.loop-table.table 0 c.new-rows.result.items c.loop-table.rows.items c.push_table.new.rows.items c.loop-table.invariant c.in_ok-push_table.ensures

all : (c : goal.Left-loop-table) → AddsRows c.new-rows.result.items c.loop-table-test.rows.items (IsSpot c.args.tables.now)
all c = elim c.loop-table-test.branch [
  | else-loop-table-test w ↦
      rw w.rows-is (table_all c.args.tables.now c.loop-table.table 0 c.loop-table.table c.new-rows.result.items c.loop-table.rows.items (omega arith) c.loop-table.invariant)
  | then-loop-table-test+in_ok-push_table+else-table-table-end w ↦
      rw w.rows-is (table_all c.args.tables.now c.loop-table.table 0 (c.loop-table.table + 1) c.new-rows.result.items w.push_table.new.rows.items (omega arith)
      (table_more c.args.tables.now c.loop-table.table 0 c.new-rows.result.items c.loop-table.rows.items w.push_table.new.rows.items c.loop-table.invariant w.in_ok-push_table.ensures))
]

pub returns-clause-spots : goal.returns-clause-spots
returns-clause-spots c = all_spots c.args.tables.now c.new-rows.result.items c.loop-table-test.rows.items c.new-rows.ensures.items (all c)

pub returns-clause-unmarked : goal.returns-clause-unmarked
returns-clause-unmarked c = all_unmarked c.new-rows.result.items c.loop-table-test.rows.items (IsSpot c.args.tables.now) c.new-rows.ensures.items (all c)
