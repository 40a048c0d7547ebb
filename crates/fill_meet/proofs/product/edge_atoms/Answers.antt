use Rattle.std.proofs.Common.{sym, ◌∙◌}
use Rattle.fill_meet.proofs.Selves.{number_same, atoms_self}
use Rattle.fill_meet.proofs.product.edge_atoms.Goals as goal

pub returns-then-eq-clause-met : goal.returns-then-eq-clause-met
returns-then-eq-clause-met c = atoms_self c.args.arena.now c.keeps_made.ensures c.args.s c.args.t (number_same c.args.s c.args.t (sym c.eq.ensures ∙ c.if-eq.true)) c.requires.first

pub returns-in-Some-find_atoms-clause-met : goal.returns-in-Some-find_atoms-clause-met
returns-in-Some-find_atoms-clause-met c = c.requires.memo.atoms.each (c.args.s, c.args.t) _ c.in-Some-find_atoms.ensures

pub returns-clause-memo : goal.returns-clause-memo
returns-clause-memo c = c.keep_atoms.ensures c.make_guided.new.arena c.in_ok-made.ensures.memo c.in_ok-made.ensures.met
