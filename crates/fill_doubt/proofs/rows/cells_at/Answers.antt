use Rattle.std.proofs.Common.{◌++◌, ◌∷◌, [], List, map, get_or, sym, ap, ◌∙◌}
use Rattle.std.proofs.lemmas.Option.{slice_get-get_or}
use Rattle.fill_doubt.proofs.Appended.{map_append}
use Rattle.fill_doubt.proofs.Keyed.{cell_gone, cells_all, cells_more}
use Rattle.fill_doubt.proofs.rows.cells_at.Goals as goal

pub loop-i-init : goal.loop-i-init
loop-i-init c = λ ts keyed. ap (λ (xs : List _). map (λ cell. cell.now) xs) (sym c.in_ok-cells.ensures.items)

pub loop-i-preserved : goal.loop-i-preserved
loop-i-preserved c =
    let look = c.args.look.now in
    let key = c.args.key.now in
    let i = c.loop-i.i in
    let more = cells_more look.tables.now look.item.now.table look.item.now.key key c.requires.key c.args.row i (get_or key i 0) c.in-Some.text.now (map (λ cell. cell.now) c.loop-i.cells.items) (slice_get-get_or key i 0 c.loop-i-test.true) (sym c.in-Some.ensures) c.loop-i.invariant in
    let pushed = ap (λ (xs : List _). map (λ cell. cell.now) xs) c.in_ok-push.ensures.items ∙ map_append (λ cell. cell.now) c.loop-i.cells.items (c.as_slice.result ∷ [])
    ∙ ap (λ t. map (λ cell. cell.now) c.loop-i.cells.items ++ t ∷ []) c.as_slice.ensures in
    λ ts keyed. more ts keyed ∙ sym pushed

pub returns-in_default : goal.returns-in_default
returns-in_default c =
    let look = c.args.look.now in
    cell_gone look.tables.now look.item.now.table look.item.now.key c.args.key.now c.requires.key c.args.row c.loop-i.i (get_or c.args.key.now c.loop-i.i 0) (slice_get-get_or c.args.key.now c.loop-i.i 0 c.loop-i-test.true) (sym c.in_default.ensures)

pub returns : goal.returns
returns c =
    let look = c.args.look.now in
    cells_all look.tables.now look.item.now.table look.item.now.key c.args.key.now c.requires.key c.args.row c.loop-i.i (map (λ cell. cell.now) c.loop-i.cells.items) c.loop-i-test.false c.loop-i.invariant
