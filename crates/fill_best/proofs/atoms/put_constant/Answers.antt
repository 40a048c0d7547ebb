use Rattle.std.proofs.Common.{◌≡◌, sym, subst}
use Rattle.fill_tree.specs.Cost.{atom_cost}
use Rattle.fill_tree.specs.Order.{atom_cmp}
use Rattle.fill_tree.specs.Tree.{constant}
use Rattle.fill_tree.proofs.TreeOrder.{atom_total, exact_atoms}
use Rattle.fill_arena.specs.declared.entry.AtomItem.TheVariants.{Const}
use Rattle.fill_arena.specs.Stands.{ConstantFits}
use Rattle.fill_arena.proofs.Items.{ok_on}
use Rattle.fill_best.specs.Cheapest.{TakesIn}
use Rattle.fill_best.proofs.Standing.{constant_fits_it, fits_constant, no_constant_else}
use Rattle.fill_best.proofs.Takes.{takes_none, takes_same}
use Rattle.fill_best.proofs.atoms.put_constant.Goals as goal

pub returns-in-Const : goal.returns-in-Const
returns-in-Const c =
    let t = c.in-Const.text in
    let old = c.args.ranking.now.items in
    let new = c.put_text.new.ranking.items in
    ok_on _ _ c.put_text.result c.put_text.ensures
    (λ u h cs. subst (λ it. TakesIn (atom_cost c.args.prices.now) atom_cmp (ConstantFits cs it) c.args.limit old new) (sym c.in-Const.is)
    (takes_same (atom_cost c.args.prices.now) atom_cmp atom_total exact_atoms c.args.limit (λ a. constant t ≡ a) (ConstantFits cs (Const t)) old new (constant_fits_it cs t) (fits_constant cs t) h))

pub returns-in_default : goal.returns-in_default
returns-in_default c cs =
    takes_none (atom_cost c.args.prices.now) atom_cmp atom_total exact_atoms c.args.limit (ConstantFits cs c.args.item.now) c.args.ranking.now.items (no_constant_else cs c.args.item.now c.in_default.not-Const) c.requires.rising c.requires.few
