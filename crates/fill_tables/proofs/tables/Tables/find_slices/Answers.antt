use Rattle.std.proofs.Common.{◌≡◌, ◌≤◌, ◌-◌, ◌∙◌, length, map, Some, None, position, sym, arith}
use Rattle.std.proofs.lemmas.List.{length-map}
use Rattle.fill_text.specs.Data.{TableData, nth}
use Rattle.fill_tables.specs.declared.table.Key.{Key}
use Rattle.fill_tables.specs.Rows.{has_cells}
use Rattle.fill_tables.proofs.Found.{find-None, find-Some, nth-read, nth-mapped}
use Rattle.fill_tables.proofs.tables.Tables.find_slices.Goals as goal

pub row_with-requires : goal.row_with-requires
row_with-requires c =
    let items = c.table.inside.keys.items in
    let f = λ (key : Key). key.columns in
    let t : TableData = record { name = c.table.inside.name; width = c.table.inside.width; rows = c.table.inside.rows.items; keys = map f items } in
    let there : nth c.args.self.now c.args.table ≡ Some t = rw c.table.view_is (nth-read c.args.self.now c.args.table c.index-table.result.now c.requires.first c.requires.last (rw c.self.view_is at c.index-table.ensures)) in
    let size = length-map items f in
    let most : c.args.key ≤ length t.keys = rw there at c.requires.last_key in
    let last : c.args.key ≤ length items = omega arith in
    let first : 1 ≤ c.args.key = c.requires.first_key in
    let order = rw (← c.index-key.ensures) at (c.table.invariant.1 (c.args.key - 1) c.index-key.result.now (omega arith)) in
    rw (c.as_slice.ensures, c.as_slice-2.ensures, c.deref.ensures.value) order

pub returns-in_err-place : goal.returns-in_err-place
returns-in_err-place c =
    let items = c.table.inside.keys.items in
    let f = λ (key : Key). key.columns in
    let t : TableData = record { name = c.table.inside.name; width = c.table.inside.width; rows = c.table.inside.rows.items; keys = map f items } in
    let there : nth c.args.self.now c.args.table ≡ Some t = rw c.table.view_is (nth-read c.args.self.now c.args.table c.index-table.result.now c.requires.first c.requires.last (rw c.self.view_is at c.index-table.ensures)) in
    let size = length-map items f in
    let most : c.args.key ≤ length t.keys = rw there at c.requires.last_key in
    let last : c.args.key ≤ length items = omega arith in
    let key : nth t.keys c.args.key ≡ Some c.as_slice.result.now = rw c.as_slice.ensures (nth-mapped f items c.args.key c.index-key.result.now c.requires.first_key last c.index-key.ensures) in
    let none : position (has_cells c.as_slice.result.now (map (λ cell. cell.now) c.args.cells.now)) t.rows ≡ None = rw (c.deref.ensures.value) at (sym c.row_with.ensures ∙ c.in_err-place.was) in
    rw c.from_residual.ensures (find-None c.args.self.now c.args.table c.args.key (map (λ cell. cell.now) c.args.cells.now) t c.as_slice.result.now there key none)

pub returns : goal.returns
returns c =
    let items = c.table.inside.keys.items in
    let f = λ (key : Key). key.columns in
    let t : TableData = record { name = c.table.inside.name; width = c.table.inside.width; rows = c.table.inside.rows.items; keys = map f items } in
    let there : nth c.args.self.now c.args.table ≡ Some t = rw c.table.view_is (nth-read c.args.self.now c.args.table c.index-table.result.now c.requires.first c.requires.last (rw c.self.view_is at c.index-table.ensures)) in
    let size = length-map items f in
    let most : c.args.key ≤ length t.keys = rw there at c.requires.last_key in
    let last : c.args.key ≤ length items = omega arith in
    let key : nth t.keys c.args.key ≡ Some c.as_slice.result.now = rw c.as_slice.ensures (nth-mapped f items c.args.key c.index-key.result.now c.requires.first_key last c.index-key.ensures) in
    let found : position (has_cells c.as_slice.result.now (map (λ cell. cell.now) c.args.cells.now)) t.rows ≡ Some c.in_ok-place.place = rw (c.deref.ensures.value) at (sym c.row_with.ensures ∙ c.in_ok-place.was) in
    find-Some c.args.self.now c.args.table c.args.key (map (λ cell. cell.now) c.args.cells.now) t c.as_slice.result.now c.in_ok-place.place there key found
