use Rattle.std.proofs.Common.{◌≡◌, ◌≤◌, length, map, Some, arith}
use Rattle.std.proofs.lemmas.List.{length-map}
use Rattle.fill_text.specs.Data.{TableData, nth}
use Rattle.fill_tables.specs.declared.table.Key.{Key}
use Rattle.fill_tables.proofs.Found.{nth-read, nth-mapped}
use Rattle.fill_tables.proofs.tables.Tables.key.Goals as goal

pub returns : goal.returns
returns c =
    let items = c.table.inside.keys.items in
    let f = λ (key : Key). key.columns in
    let t : TableData = record { name = c.table.inside.name; width = c.table.inside.width; rows = c.table.inside.rows.items; keys = map f items } in
    let there : nth c.args.self.now c.args.table ≡ Some t = rw c.table.view_is (nth-read c.args.self.now c.args.table c.index-table.result.now c.requires.first c.requires.last (rw c.self.view_is at c.index-table.ensures)) in
    let size = length-map items f in
    let most : c.args.key ≤ length t.keys = rw there at c.requires.last_key in
    let last : c.args.key ≤ length items = omega arith in
    let key : nth t.keys c.args.key ≡ Some c.as_slice.result.now = rw c.as_slice.ensures (nth-mapped f items c.args.key c.index.result.now c.requires.first_key last c.index.ensures) in
    rw there key
