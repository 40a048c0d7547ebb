use Rattle.std.proofs.Common.{◌≡◌, map, true, false, refl, Some}
use Rattle.fill_text.specs.Data.{TableData, nth}
use Rattle.fill_tables.specs.declared.table.Key.{Key}
use Rattle.fill_tables.proofs.Found.{distinguish-iff, nth-read}
use Rattle.fill_tables.proofs.tables.Tables.is_key.Goals as goal

pub returns-in-Ok : goal.returns-in-Ok
returns-in-Ok c =
    let t : TableData = record { name = c.behind-self.inside.name; width = c.behind-self.inside.width; rows = c.behind-self.inside.rows.items; keys = map (λ (key : Key). key.columns) c.behind-self.inside.keys.items } in
    let there : nth c.args.self.now c.args.table ≡ Some t = rw c.behind-self.view_is (nth-read c.args.self.now c.args.table c.index.result.now c.requires.first c.requires.last (rw c.self.view_is at c.index.ensures)) in
    let apart = rw c.deref.ensures.value at c.in-Ok.ensures.apart in
    distinguish-iff c.args.self.now c.args.table t c.args.columns.now true there (rw apart refl)

pub returns-in-Err : goal.returns-in-Err
returns-in-Err c =
    let t : TableData = record { name = c.behind-self.inside.name; width = c.behind-self.inside.width; rows = c.behind-self.inside.rows.items; keys = map (λ (key : Key). key.columns) c.behind-self.inside.keys.items } in
    let there : nth c.args.self.now c.args.table ≡ Some t = rw c.behind-self.view_is (nth-read c.args.self.now c.args.table c.index.result.now c.requires.first c.requires.last (rw c.self.view_is at c.index.ensures)) in
    let clash = rw c.deref.ensures.value at c.in-Err.ensures.clash in
    distinguish-iff c.args.self.now c.args.table t c.args.columns.now false there (rw clash refl)
