use Rattle.std.proofs.Common.{◌∙◌, sym}
use Rattle.fill_arena.proofs.Lists.{extends_same}
use Rattle.fill_sources.proofs.Puts.{atoms_made, no_atoms}
use Rattle.fill_sources.proofs.parts.atom_set.Goals as goal

pub returns-then-len-eq0-clause-made : goal.returns-then-len-eq0-clause-made
returns-then-len-eq0-clause-made c = no_atoms c.args.arena.now c.args.arena.now c.args.items (sym c.len.ensures ∙ c.if-len-eq0.true) (extends_same c.args.arena.now)

pub returns-clause-made : goal.returns-clause-made
returns-clause-made c = atoms_made c.args.arena.now c.intern_atoms.new.self c.args.items c.in_ok-intern_atoms.field-0 c.intern_atoms.ensures.extends c.in_ok-intern_atoms.ensures.ok
