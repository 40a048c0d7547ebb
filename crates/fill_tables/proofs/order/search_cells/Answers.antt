use Rattle.std.proofs.Common.{map, Some, rules, of_calls}
use Rattle.std.proofs.lemmas.Fn.{always_returns_same}
use Rattle.fill_tables.specs.Orders.{cells_at, cells_cmp}
use Rattle.fill_tables.proofs.order.search_cells.Goals as goal

pub returns-clause-found : goal.returns-clause-found
returns-clause-found c = c.binary_search_by.ensures.position (λ place. cells_cmp (cells_at c.args.columns.now c.args.rows.now place) (map Some (map (λ cell. cell.now) c.args.cells.now))) (always_returns_same _ _ _ (λ a r f' called. search (rules, of_calls)))
