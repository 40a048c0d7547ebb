use Rattle.fill_arena.proofs.renumber.renumber_entry.Goals as goal

pub renumber_sources-requires : goal.renumber_sources-requires
renumber_sources-requires c = rw c.in-Sources.is at c.requires

pub renumber_atoms-requires : goal.renumber_atoms-requires
renumber_atoms-requires c = rw c.in-Atoms.is at c.requires

pub renumber_edges-requires : goal.renumber_edges-requires
renumber_edges-requires c = rw c.as_slice.ensures (rw c.in-Graph.is at c.requires)
