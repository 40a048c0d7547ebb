use Rattle.fill_arena.proofs.renumber.renumber_source.Goals as goal

pub renumber_conditions-requires : goal.renumber_conditions-requires
renumber_conditions-requires c = rw c.as_slice.ensures (rw c.in-Select.is at c.requires)
