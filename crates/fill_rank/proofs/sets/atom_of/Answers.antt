use Rattle.std.proofs.Common.{sym, subst}
use Rattle.fill_arena.specs.Stands.{AtomStands}
use Rattle.fill_arena.specs.Best.{IsBest}
use Rattle.fill_tree.specs.Order.{atom_rank}
use Rattle.fill_rank.proofs.sets.atom_of.Goals as goal

pub returns-clause-memo : goal.returns-clause-memo
returns-clause-memo c =
    let prices = c.args.prices.now in
    let arena = c.args.arena.now in
    c.in_ok-keep_atom.ensures.kept prices arena c.in_ok-best.ensures.memo (subst (IsBest (atom_rank prices) (AtomStands arena c.args.s)) (sym c.in_ok-copy.ensures) c.in_ok-best.ensures.best)
