use Rattle.std.proofs.Common.{◌∙◌, sym}
use Rattle.fill_sheet.proofs.Cells.{cell_at-found, place-Contains}
use Rattle.fill_sheet.proofs.sheet.Sheet.cell.Goals as goal

pub unwrap-at-requires : goal.unwrap-at-requires
unwrap-at-requires c =
    let input = rw (← c.self.view_is) at c.requires.input in
    rw (c.place_of.ensures, c.deref.ensures.value) (place-Contains c.self.inside.inputs.items c.args.column input)

pub returns : goal.returns
returns c =
    let place = rw c.deref.ensures.value at (sym c.place_of.ensures ∙ c.unwrap-at.ensures) in
    let last = rw (← c.self.view_is) at c.requires.last in
    rw (← c.self.view_is) (cell_at-found (record { inputs = c.self.inside.inputs.items; rows = c.self.inside.rows.items }) c.args.row c.args.column c.unwrap-at.result c.index-row.result.now c.index.result.now
    c.self.invariant c.requires.first last place c.index-row.ensures (rw (← c.row.view_is) c.index.ensures))
