use Rattle.fill_arena.proofs.marks.mark_source.Goals as goal

pub mark_conditions-requires : goal.mark_conditions-requires
mark_conditions-requires c = rw c.as_slice.ensures (rw c.in-Select.is at c.requires)
