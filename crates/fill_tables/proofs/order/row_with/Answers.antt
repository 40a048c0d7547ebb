use Rattle.std.proofs.Common.{length, map, Some, sym, arith}
use Rattle.std.proofs.lemmas.List.{take_all}
use Rattle.fill_text.specs.Data.{nth}
use Rattle.fill_tables.specs.Rows.{has_cells}
use Rattle.fill_tables.proofs.Orders.{order-found, order-absent, order-rises, same_cells-cmp}
use Rattle.fill_tables.proofs.order.row_with.Goals as goal

pub returns-in-Ok : goal.returns-in-Ok
returns-in-Ok c =
    let rows = c.args.rows.now in
    let columns = c.args.columns.now in
    let x = map Some (map (λ cell. cell.now) c.args.cells.now) in
    let found = order-found columns rows (length rows) c.args.order.now (has_cells columns (map (λ cell. cell.now) c.args.cells.now)) x c.in-Ok.found (omega arith) c.requires
    (λ other. same_cells-cmp (map (nth other) columns) x) c.in-Ok.ensures.bound (c.in-Ok.ensures.found 0) in
    sym (rw (take_all (length rows) rows (omega arith)) at found)

pub returns-in-Err : goal.returns-in-Err
returns-in-Err c =
    let rows = c.args.rows.now in
    let columns = c.args.columns.now in
    let x = map Some (map (λ cell. cell.now) c.args.cells.now) in
    let parts = c.in-Err.ensures.found (order-rises columns rows (length rows) c.args.order.now x c.requires) in
    let none = order-absent columns rows (length rows) c.args.order.now (has_cells columns (map (λ cell. cell.now) c.args.cells.now)) x c.in-Err.field-0 (omega arith) c.requires
    (λ other. same_cells-cmp (map (nth other) columns) x) parts.0 parts.1 in
    sym (rw (take_all (length rows) rows (omega arith)) at none)
