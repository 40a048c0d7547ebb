use Rattle.std.proofs.Common.{◌≡◌, ◌⊎◌, [], false, true, None}
use Rattle.fill_doubt.specs.Rows.{AreFound, Find, RowsHave}
use Rattle.fill_doubt.specs.declared.rows.Look.{Look}
use Rattle.fill_doubt.proofs.Flags.{on_ok}
use Rattle.fill_doubt.proofs.Gains.{gains_alike, gains_then}
use Rattle.fill_doubt.proofs.Ways.{found_by_ways}
use Rattle.fill_doubt.proofs.rows.look_up.Goals as goal

pub returns : goal.returns
returns c =
    let cs = c.args.conditions.now in
    let i = c.args.item.now in
    let look : Look = record { alloc = c.args.alloc; item = c.args.item; tables = c.args.tables; few = false } in
    on_ok c.put_found.result c.put_found.ensures (λ found.
    gains_alike _ _ (λ o. ((o ≡ None) × (c.lacks.result ≡ true)) ⊎ Find look [] false cs o) (AreFound c.args.tables.now i.column i.table i.key (RowsHave cs)) (found_by_ways look cs c.lacks.result c.lacks.ensures)
    (gains_then _ _ _ (λ o. (o ≡ None) × (c.lacks.result ≡ true)) (Find look [] false cs) c.put_none.ensures.gains found))
