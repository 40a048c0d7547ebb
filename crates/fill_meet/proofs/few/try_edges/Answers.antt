use Rattle.std.proofs.Common.{inr, refl}
use Rattle.fill_arena.specs.declared.entry.Entry.TheVariants.{Atoms}
use Rattle.fill_meet.proofs.Trials.{atoms_unshared}
use Rattle.fill_meet.proofs.few.try_edges.Goals as goal

pub atoms_may_meet-requires-clause-first : goal.atoms_may_meet-requires-clause-first
atoms_may_meet-requires-clause-first c = (c.args.x.now.atoms, (c.keeps_made.ensures c.args.x.now.atoms (Atoms c.args.items.now) c.requires.left).each)

pub atoms_may_meet-requires-clause-second : goal.atoms_may_meet-requires-clause-second
atoms_may_meet-requires-clause-second c = (c.args.y.now.atoms, (c.keeps_made.ensures c.args.y.now.atoms (Atoms c.atoms.result.now) c.atoms.ensures).each)

pub returns-then-not-atoms_may_meet-clause-tie : goal.returns-then-not-atoms_may_meet-clause-tie
returns-then-not-atoms_may_meet-clause-tie c =
    inr (atoms_unshared c.args.arena.now c.args.x.now.atoms c.args.y.now.atoms _ _ c.requires.left c.atoms.ensures (c.atoms_may_meet.ensures.apart c.if-not-atoms_may_meet.true), refl)
