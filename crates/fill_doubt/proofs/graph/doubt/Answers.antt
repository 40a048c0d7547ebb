use Rattle.fill_doubt.proofs.graph.doubt.Goals as goal

pub doubt_with-requires-clause-shapes : goal.doubt_with-requires-clause-shapes
doubt_with-requires-clause-shapes c = c.new-shapes.ensures c.args.arena.now
