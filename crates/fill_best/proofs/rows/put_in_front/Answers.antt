use Rattle.std.specs.Prelude.{Contains}
use Rattle.fill_tree.specs.Order.{atoms_cmp}
use Rattle.fill_tree.specs.Tree.{more}
use Rattle.fill_tree.proofs.TreeOrder.{atoms_total, exact_atom_lists}
use Rattle.fill_best.specs.Costs.{by_cost, linked}
use Rattle.fill_best.specs.First.{IsMade}
use Rattle.fill_best.proofs.Costs.{by_cost-total, by_cost-exact}
use Rattle.fill_best.proofs.Takes.{two_joined}
use Rattle.fill_best.proofs.rows.put_in_front.Goals as goal

pub returns : goal.returns
returns c =
    two_joined (by_cost atoms_cmp) (by_cost-total atoms_cmp atoms_total) (by_cost-exact atoms_cmp exact_atom_lists) c.args.limit
    (IsMade (linked more 0) (Contains c.args.constants.now) (Contains c.args.after_constants.now)) (IsMade (linked more c.args.price) (Contains c.args.parts.now) (Contains c.args.after_parts.now))
    c.new-rows.result.items c.put_products.new.ranking.items c.put_products-2.new.ranking.items c.new-rows.ensures.items c.in_ok-put_products.ensures c.in_ok-put_products-2.ensures
