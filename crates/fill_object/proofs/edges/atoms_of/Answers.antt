use Rattle.std.proofs.Common.{Vec, Global, sym, subst, ◌∙◌}
use Rattle.fill_arena.specs.Stands.{AtomStands}
use Rattle.fill_object.specs.Kinds.{atoms_on}
use Rattle.fill_object.specs.Leasts.{AreLeasts}
use Rattle.fill_object.specs.declared.valued.ValuedAtom.{ValuedAtom}
use Rattle.fill_object.proofs.edges.atoms_of.Goals as goal

pub returns-in-Some-clause-least : goal.returns-in-Some-clause-least
returns-in-Some-clause-least c =
    subst (λ (v : Vec ValuedAtom Global). AreLeasts (atoms_on c.args.on.now) (AtomStands c.args.on.now.arena.now c.args.s) v.items) (sym c.in_ok-clone.ensures.cases) (c.in-Some.ensures c.args.on.now c.requires.memo)

pub returns-clause-least : goal.returns-clause-least
returns-clause-least c =
    subst (λ (v : Vec ValuedAtom Global). AreLeasts (atoms_on c.args.on.now) (AtomStands c.args.on.now.arena.now c.args.s) v.items) (sym c.in_ok-leasts.ensures.ok) c.in_ok-scan_atoms.ensures.least

pub returns-clause-memo : goal.returns-clause-memo
returns-clause-memo c =
    c.in_ok-keep_atoms.ensures c.args.on.now c.in_ok-scan_atoms.ensures.memo
    (subst (λ (v : Vec ValuedAtom Global). AreLeasts (atoms_on c.args.on.now) (AtomStands c.args.on.now.arena.now c.args.s) v.items)
    (sym (c.in_ok-clone-2.ensures.cases ∙ c.in_ok-leasts.ensures.ok)) c.in_ok-scan_atoms.ensures.least)
