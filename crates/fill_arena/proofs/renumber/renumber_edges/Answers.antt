use Rattle.std.proofs.Common.{refl}
use Rattle.std.proofs.lemmas.List.Elements.{all_zip_more}
use Rattle.fill_arena.specs.Copied.{EdgeBecomes, HasNew, Takes}
use Rattle.fill_arena.specs.Named.{edge_names}
use Rattle.fill_arena.proofs.Scan.{here}
use Rattle.fill_arena.proofs.Zips.{each_of_flat}
use Rattle.fill_arena.proofs.renumber.renumber_edges.Goals as goal

pub renumber_edge-requires : goal.renumber_edge-requires
renumber_edge-requires c =
    let edges = c.args.edges.now in
    let edge = c.index-edges-i.result in
    each_of_flat (HasNew c.args.table.now) edge_names edges c.requires c.loop-i.i edge (here edges c.loop-i.i edge c.loop-i-test.true c.index-edges-i.is) 0 edge.atoms refl

pub loop-i-preserved : goal.loop-i-preserved
loop-i-preserved c =
    rw c.in_ok-push.ensures.ok
    (all_zip_more (EdgeBecomes (Takes c.args.table.now)) c.args.edges.now c.loop-i.made c.loop-i.i c.index-edges-i.result c.renumber_edge.result c.loop-i-test.true c.index-edges-i.is c.loop-i.invariant c.renumber_edge.ensures)
