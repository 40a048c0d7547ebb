use Rattle.std.proofs.Common.{◌∙◌, ◌<◌, ap, arith, length, map, subst, sym}
use Rattle.std.proofs.lemmas.List.{get_or-map, length-map}
use Rattle.fill_opening.proofs.Binds.{none_fell_both}
use Rattle.fillcsv_options.specs.Words.{IsLookup, lookup_data}
use Rattle.fillcsv_tables.proofs.Steps.{lookup_stops, lookup_passes, lookups_end}
use Rattle.fillcsv_tables.proofs.tables.open_tables.Goals as goal

pub add-requires : goal.add-requires
add-requires g c =
    let l = c.loop-lookup in
    let lookups = c.args.lookups.now in
    let item = c.lookup-item.result in
    let within : l.lookup-index < length lookups = omega arith in
    let inside : l.lookup-index < length (map lookup_data lookups) = omega (arith, length-map lookups lookup_data) in
    subst IsLookup (get_or-map lookup_data lookups l.lookup-index item (lookup_data item) within ∙ ap lookup_data (sym c.lookup-item.is))
    (c.requires l.lookup-index (lookup_data item) inside)

pub returns-in-Err-clause-stopped : goal.returns-in-Err-clause-stopped
returns-in-Err-clause-stopped g c =
    let l = c.loop-lookup in
    let stopped = rw l.invariant.files at c.in-Err.ensures.stopped in
    lookup_stops (g.C.Cabinet.files c.args.cabinet.now) c.args.lookups.now l.tables l.lookup-index l.invariant.rest c.lookup-item.result c.lookup-item.is (omega arith)
    _ _ _ l.invariant.later c.in-Err.stop stopped

pub loop-lookup-preserved : goal.loop-lookup-preserved
loop-lookup-preserved g c =
    let l = c.loop-lookup in
    let ready = rw l.invariant.files at c.in-Ok.ensures.ready in
    record {
      files = c.add.ensures.files ∙ l.invariant.files;
      later = none_fell_both (g.C.Cabinet.faults c.args.cabinet.now) (g.C.Cabinet.faults l.cabinet) (g.C.Cabinet.faults c.add.new.cabinet) l.invariant.later c.add.ensures.later;
      rest = lookup_passes (g.C.Cabinet.files c.args.cabinet.now) c.args.lookups.now l.tables l.lookup-index l.invariant.rest c.lookup-item.result c.lookup-item.is (omega arith)
          _ ready;
    }

pub returns-clause-ready : goal.returns-clause-ready
returns-clause-ready g c =
    let l = c.loop-lookup in
    lookups_end (g.C.Cabinet.files c.args.cabinet.now) c.args.lookups.now l.tables l.lookup-index l.invariant.rest (omega arith)
