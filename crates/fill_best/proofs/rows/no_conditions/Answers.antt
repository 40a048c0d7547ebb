use Rattle.std.proofs.Common.{[], ◌∷◌, ◌++◌, refl, sym, ap, subst, ◌∙◌}
use Rattle.fill_tree.specs.Cost.{conditions_cost}
use Rattle.fill_tree.specs.Grammar.{HasPart}
use Rattle.fill_tree.specs.Order.{atoms_cmp}
use Rattle.fill_tree.specs.Tree.{end}
use Rattle.fill_tree.proofs.TreeOrder.{atoms_total, exact_atom_lists}
use Rattle.fill_arena.specs.Stands.{ConditionsFit}
use Rattle.fill_arena.proofs.Stand.{no_row_mixed}
use Rattle.fill_best.specs.Cheapest.{AreCheapest}
use Rattle.fill_best.proofs.Conditions.{only_end, free}
use Rattle.fill_best.proofs.Takes.{cheapest_none, cheapest_one}
use Rattle.fill_best.proofs.rows.no_conditions.Goals as goal

pub returns : goal.returns
returns c prices cs = record {
  any = subst (AreCheapest (conditions_cost prices) atoms_cmp (λ p. ConditionsFit p cs []) c.args.limit)
      (sym (c.in_ok-push.ensures.items ∙ ap (λ t. c.new-any.result.items ++ free t ∷ []) c.none.ensures ∙ ap (λ l. l ++ free end ∷ []) c.new-any.ensures.items))
      (cheapest_one (conditions_cost prices) atoms_cmp atoms_total exact_atom_lists c.args.limit (λ p. ConditionsFit p cs []) end 0 c.requires refl tt (only_end cs));
  mixed = subst (AreCheapest (conditions_cost prices) atoms_cmp (λ p. HasPart p × ConditionsFit p cs []) c.args.limit) (sym c.new.ensures.items)
      (cheapest_none (conditions_cost prices) atoms_cmp atoms_total exact_atom_lists c.args.limit (λ p. HasPart p × ConditionsFit p cs []) (no_row_mixed cs));
}
