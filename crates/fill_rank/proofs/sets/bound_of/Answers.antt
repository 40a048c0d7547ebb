use Rattle.fill_rank.proofs.sets.bound_of.Goals as goal

pub returns-clause-memo : goal.returns-clause-memo
returns-clause-memo c =
    let memo = c.requires.memo in
    record { places = memo.places; sources = memo.sources; parts = memo.parts; atoms = memo.atoms; bounds = c.of_set.ensures.bounds }
