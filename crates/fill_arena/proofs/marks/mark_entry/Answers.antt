use Rattle.fill_arena.proofs.marks.mark_entry.Goals as goal

pub mark_sources-requires : goal.mark_sources-requires
mark_sources-requires c = rw c.in-Sources.is at c.requires

pub mark_atoms-requires : goal.mark_atoms-requires
mark_atoms-requires c = rw c.in-Atoms.is at c.requires

pub mark_edges-requires : goal.mark_edges-requires
mark_edges-requires c = rw c.as_slice.ensures (rw c.in-Graph.is at c.requires)
