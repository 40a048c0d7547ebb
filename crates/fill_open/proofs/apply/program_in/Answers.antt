use Rattle.fill_open.proofs.apply.program_in.Goals as goal

pub returns-in-Ok-clause-reads : goal.returns-in-Ok-clause-reads
returns-in-Ok-clause-reads c = rw c.as_slice.ensures at c.in-Ok.ensures.reads
