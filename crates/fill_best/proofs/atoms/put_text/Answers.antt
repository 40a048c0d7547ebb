use Rattle.std.proofs.Common.{◌≡◌, ◌<◌, ◌≤◌, ◌^◌, sym, subst, ◌∙◌, arith}
use Rattle.fill_tree.specs.Cost.{atom_cost}
use Rattle.fill_tree.specs.Order.{atom_cmp}
use Rattle.fill_tree.specs.Tree.{constant}
use Rattle.fill_tree.proofs.TreeOrder.{atom_total, exact_atoms}
use Rattle.fill_best.proofs.Standing.{text_cheap}
use Rattle.fill_best.proofs.Takes.{takes_one, takes_same}
use Rattle.fill_best.proofs.atoms.put_text.Goals as goal

pub unreachable-requires : goal.unreachable-requires
unreachable-requires c =
    let dear : 2 ^ 64 ≤ atom_cost c.args.prices.now c.in_ok-item.item = c.in_default.ensures.none in
    let cheap : atom_cost c.args.prices.now c.in_ok-item.item < 2 ^ 64 = subst (λ a. atom_cost c.args.prices.now a < 2 ^ 64) (sym c.in_ok-item.ensures) (text_cheap c.args.prices.now c.keep_small.ensures c.args.text.now c.requires.short) in
    absurd (omega arith)

pub returns : goal.returns
returns c =
    let x = c.in_ok-item.item in
    let is = c.in_ok-item.ensures in
    let old = c.args.ranking.now.items in
    let new = c.put.new.ranking.items in
    takes_same (atom_cost c.args.prices.now) atom_cmp atom_total exact_atoms c.args.limit (λ a. x ≡ a) (λ a. constant c.args.text.now ≡ a) old new (λ a e. sym is ∙ e) (λ a e. is ∙ e)
    (takes_one (atom_cost c.args.prices.now) atom_cmp atom_total exact_atoms c.args.limit x c.in-Some.cost old new c.in-Some.ensures.some c.in_ok-put.ensures.first)
