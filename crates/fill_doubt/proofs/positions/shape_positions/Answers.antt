use Rattle.std.proofs.lemmas.Option.{slice_get_within}
use Rattle.fill_doubt.specs.Read.{IsReadIn}
use Rattle.fill_doubt.proofs.Flags.{on_ok}
use Rattle.fill_doubt.proofs.Kept.{lent_read, set_reads}
use Rattle.fill_doubt.proofs.Maps.{set_right}
use Rattle.fill_doubt.proofs.positions.shape_positions.Goals as goal

pub read_positions-requires-clause-text : goal.read_positions-requires-clause-text
read_positions-requires-clause-text c =
    let x = c.args.shaped.now in
    (lent_read c.args.shapes.now x.shape.text x.number c.index_mut.result.now c.requires.there c.index_mut.ensures.value).1

pub read_positions-requires-clause-read : goal.read_positions-requires-clause-read
read_positions-requires-clause-read c =
    let x = c.args.shaped.now in
    c.requires.stand.each x.number c.index_mut.result.now (lent_read c.args.shapes.now x.shape.text x.number c.index_mut.result.now c.requires.there c.index_mut.ensures.value).0

pub returns-clause-stand : goal.returns-clause-stand
returns-clause-stand c =
    let reads = c.args.shapes.now.reads.items in
    let n = c.args.shaped.now.number in
    let has = c.requires.there in
    on_ok c.read_positions.result c.read_positions.ensures.read
    (λ is. record { each = set_right (IsReadIn c.args.on.now.arena.now) reads n c.read_positions.new.read (slice_get_within reads n has.0 has.1) is c.requires.stand.each })

pub returns-clause-there : goal.returns-clause-there
returns-clause-there c =
    let x = c.args.shaped.now in
    let at = lent_read c.args.shapes.now x.shape.text x.number c.index_mut.result.now c.requires.there c.index_mut.ensures.value in
    on_ok c.read_positions.result c.read_positions.ensures.read
    (λ is. set_reads c.args.shapes.now.reads.items x.number c.index_mut.result.now c.read_positions.new.read at.0 c.read_positions.ensures.text)
