use Rattle.std.proofs.Common.{◌-◌, arith}
use Rattle.fill_arena.specs.declared.entry.Entry.TheVariants.{Graph}
use Rattle.fill_arena.proofs.Edges.{the_graph}
use Rattle.fill_object.proofs.graph.guide_of.Goals as goal

pub of-requires-clause-some : goal.of-requires-clause-some
of-requires-clause-some c =
    let edges = c.edges.result.now in
    (c.keeps_made.ensures c.args.g (Graph c.nodes.result edges) (the_graph c.args.arena.now c.args.g c.nodes.result edges c.nodes.ensures c.edges.ensures)).some

pub of-requires-clause-within : goal.of-requires-clause-within
of-requires-clause-within c k e h =
    let edges = c.edges.result.now in
    let own = (c.keeps_made.ensures c.args.g (Graph c.nodes.result edges) (the_graph c.args.arena.now c.args.g c.nodes.result edges c.nodes.ensures c.edges.ensures)).each k e h in
    let forth = own.onward in
    let inside = own.within in
    omega arith

pub of-requires-clause-edges : goal.of-requires-clause-edges
of-requires-clause-edges c k e h =
    let edges = c.edges.result.now in
    ((c.keeps_made.ensures c.args.g (Graph c.nodes.result edges) (the_graph c.args.arena.now c.args.g c.nodes.result edges c.nodes.ensures c.edges.ensures)).each k e h).atoms.0
