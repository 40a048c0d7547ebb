use Rattle.std.proofs.Common.{[], ap, sym, subst, ◌∙◌}
use Rattle.fill_tree.specs.Cost.{conditions_cost}
use Rattle.fill_tree.specs.Order.{rank, atoms_cmp}
use Rattle.fill_arena.specs.Stands.{ConditionsFit}
use Rattle.fill_arena.specs.Best.{IsBest}
use Rattle.fill_arena.proofs.Stand.{no_row_mixed}
use Rattle.fill_rank.proofs.Put.{best_end}
use Rattle.fill_rank.proofs.rows.no_conditions.Goals as goal

pub returns : goal.returns
returns c prices cs =
    let tree = sym c.empty.ensures.atoms in
    let best = subst (IsBest (rank (conditions_cost prices) atoms_cmp) (λ p. ConditionsFit p cs [])) tree (best_end prices cs) in
    record { any = (c.empty.ensures.cost ∙ ap (conditions_cost prices) tree, best); mixed = no_row_mixed cs }
