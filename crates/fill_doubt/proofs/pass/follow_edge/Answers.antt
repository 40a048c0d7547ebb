use Rattle.fill_doubt.proofs.pass.follow_edge.Goals as goal

pub follow_all-requires-clause-laid : goal.follow_all-requires-clause-laid
follow_all-requires-clause-laid c = let r = c.requires.laid in (r.0, r.1, c.in_ok-follow_some.ensures.laid r.0 r.1 r.2)

pub returns-clause-laid : goal.returns-clause-laid
returns-clause-laid c = λ edges i laid. c.follow_all.ensures.laid edges i (c.in_ok-follow_some.ensures.laid edges i laid)
