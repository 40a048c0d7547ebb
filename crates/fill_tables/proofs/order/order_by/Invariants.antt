use Rattle.std.proofs.Common.{◌≡◌, length, take, drop}
use Rattle.fill_tables.specs.Orders.{IsOrder}
use Rattle.fill_tables.specs.Rows.{clash_after, first_clash}
use Rattle.fill_tables.proofs.order.order_by.Given as goal

abbrev pub invariant-loop-i : goal.invariant-loop-i
invariant-loop-i l = record {
  count : length l.order.items ≡ l.i;
  order : IsOrder l.columns l.rows l.i l.order.items;
  rest : first_clash l.columns l.rows ≡ clash_after l.columns (take l.i l.rows) (drop l.i l.rows);
}
