use Rattle.std.proofs.Common.{◌≡◌, map, [], refl, sym}
use Rattle.fill_text.specs.Data.{SheetData}
use Rattle.fill_eval.proofs.Lookups.{looked_up, no_row}
use Rattle.fill_eval.proofs.Values.{some_is}
use Rattle.fill_doubt.proofs.rows.cell_found.Goals as goal

no_sheet : SheetData
no_sheet = record { inputs = []; rows = [] }

pub returns-in_err-row : goal.returns-in_err-row
returns-in_err-row c =
    let texts = map (λ cell. cell.now) c.args.cells.now in
    rw c.from_residual.ensures (no_row c.args.tables.now (λ ts. ts ≡ texts) c.args.item.now.column c.args.item.now.table c.args.item.now.key texts (some_is (λ ts. ts ≡ texts) texts refl (λ v h. sym h)) c.in_err-row.ensures.found)

pub returns : goal.returns
returns c =
    let texts = map (λ cell. cell.now) c.args.cells.now in
    let i = c.args.item.now in
    rw c.table_cell.ensures (looked_up no_sheet c.args.tables.now (λ ts. ts ≡ texts) i.column i.table i.key c.in_ok-row.row texts c.in_ok-row.ensures.one (some_is (λ ts. ts ≡ texts) texts refl (λ v h. sym h)) c.in_ok-row.ensures.found)
