use Rattle.fill_arena.specs.Contents.{SomeIn}
use Rattle.fill_arena.specs.Stands.{SourceFits}
use Rattle.fill_arena.specs.declared.entry.SourceItem.TheVariants.{Select}
use Rattle.fill_arena.proofs.Scan.{here}
use Rattle.fill_object.specs.Kinds.{sources_on}
use Rattle.fill_object.specs.Rows.{IsSelectBy}
use Rattle.fill_object.proofs.Gains.{scan_none, scan_more, scan_done, gains_through}
use Rattle.fill_object.proofs.KindLaws.{sources_laws}
use Rattle.fill_object.proofs.Made.{select_fits, fits_select}
use Rattle.fill_object.proofs.sources.put_selects.Goals as goal

pub loop-row-init : goal.loop-row-init
loop-row-init c = scan_none (sources_on c.args.on.now) (sources_laws c.args.on.now) (λ r x. IsSelectBy c.args.item.now r x) c.args.rows.now c.args.rivals.now.items

pub loop-row-preserved : goal.loop-row-preserved
loop-row-preserved c =
    let on = c.args.on.now in
    let rows = c.args.rows.now in
    let i = c.loop-row.row-index in
    let x = c.row-item.result in
    scan_more (sources_on on) (sources_laws on) (λ r y. IsSelectBy c.args.item.now r y) rows i x (here rows i x c.loop-row-test.true c.row-item.is) c.args.rivals.now.items c.loop-row.rivals.items
    c.put_select.new.rivals.items c.loop-row.invariant c.in_ok-put_select.ensures

pub returns : goal.returns
returns c =
    let on = c.args.on.now in
    let i = c.args.item.now in
    let rows = c.args.rows.now in
    let old = c.args.rivals.now.items in
    let new = c.loop-row.rivals.items in
    gains_through (sources_on on) (sources_laws on) (λ x. SomeIn (λ r. IsSelectBy i r x) rows) (λ x. SourceFits x on.arena.now (Select i)) (select_fits on i rows c.requires.rows) (fits_select on i rows c.requires.rows)
    old new (scan_done (sources_on on) (sources_laws on) (λ r x. IsSelectBy i r x) rows c.loop-row.row-index c.loop-row-test.false old new c.loop-row.invariant)
