use Rattle.fill_build.proofs.edges.put_edges_from.Goals as goal

pub make_edges-requires-clause-state : goal.make_edges-requires-clause-state
make_edges-requires-clause-state c = c.in_ok-take_edges.ensures.taken c.args.on.now c.args.arena.now c.requires.state
