use Rattle.std.proofs.Common.{◌≡◌, ◌∙◌, [], map, get_or, arith}
use Rattle.std.proofs.lemmas.List.{get_or_default}
use Rattle.fill_text.specs.Data.{nth}
use Rattle.fill_tables.specs.Orders.{cells_at}
use Rattle.fill_tables.specs.Rows.{agree}
use Rattle.fill_tables.proofs.Agree.{clash_after-next, clash_after-here}
use Rattle.fill_tables.proofs.Orders.{order-found, order-absent, order-inserted, order-rises, same_cells-cmp}
use Rattle.fill_tables.proofs.order.order_by.Goals as goal

pub returns-in-Ok-clause-clash : goal.returns-in-Ok-clause-clash
returns-in-Ok-clause-clash c =
    let rows = c.args.rows.now in
    let columns = c.args.columns.now in
    let i = c.loop-i.i in
    let row : c.as_slice-in-loop-i.result.now ≡ get_or rows i [] = c.as_slice-in-loop-i.ensures ∙ c.index-rows-i.is ∙ get_or_default rows i c.index-rows-i.result [] c.loop-i-test.true in
    let bound = rw c.as_slice.ensures.value at c.in-Ok.ensures.bound in
    let equal = rw (c.as_slice.ensures.value, row) at (c.in-Ok.ensures.found 0) in
    let found = order-found columns rows i c.loop-i.order.items (λ other. agree columns other (get_or rows i [])) (cells_at columns rows i) c.in-Ok.found (omega arith) c.loop-i.invariant.order
    (λ other. same_cells-cmp (map (nth other) columns) (cells_at columns rows i)) bound equal in
    rw c.as_slice-in-Ok.ensures.value (c.loop-i.invariant.rest ∙ clash_after-here columns rows i [] (get_or c.loop-i.order.items c.in-Ok.found 0) c.loop-i-test.true found)

pub loop-i-preserved : goal.loop-i-preserved
loop-i-preserved c =
    let rows = c.args.rows.now in
    let columns = c.args.columns.now in
    let i = c.loop-i.i in
    let row : c.as_slice-in-loop-i.result.now ≡ get_or rows i [] = c.as_slice-in-loop-i.ensures ∙ c.index-rows-i.is ∙ get_or_default rows i c.index-rows-i.result [] c.loop-i-test.true in
    let bound = rw c.as_slice.ensures.value at c.in-Err.ensures.bound in
    let split = rw (c.as_slice.ensures.value, row) at c.in-Err.ensures.found in
    let parts = split (order-rises columns rows i c.loop-i.order.items (cells_at columns rows i) c.loop-i.invariant.order) in
    let none = order-absent columns rows i c.loop-i.order.items (λ other. agree columns other (get_or rows i [])) (cells_at columns rows i) c.in-Err.place (omega arith) c.loop-i.invariant.order
    (λ other. same_cells-cmp (map (nth other) columns) (cells_at columns rows i)) parts.0 parts.1 in
    record {
      count = omega (arith, c.insert.ensures.len, c.loop-i.invariant.count);
      order = rw c.insert.ensures.items (order-inserted columns rows i c.loop-i.order.items c.in-Err.place c.loop-i.invariant.order bound parts.0 parts.1);
      rest = c.loop-i.invariant.rest ∙ clash_after-next columns rows i [] c.loop-i-test.true none;
    }
