use Rattle.std.proofs.Common.{sym, subst, ◌∙◌, ap}
use Rattle.fill_tree.specs.Meaning.{atom_tree}
use Rattle.fill_tree.specs.Tree.{constant}
use Rattle.fill_tree.specs.declared.tree.Atom.TheVariants.{Const}
use Rattle.fill_arena.specs.declared.entry.AtomItem.TheVariants as item
use Rattle.fill_arena.specs.Best.{IsBest}
use Rattle.fill_tree.specs.Order.{atom_rank}
use Rattle.fill_arena.specs.Stands.{ConstantFits}
use Rattle.fill_rank.proofs.Parts.{best_constant}
use Rattle.fill_arena.proofs.Trees.{constant_tree}
use Rattle.fill_rank.proofs.sets.constant_in.Goals as goal

pub returns-in_ok-copy-in-Const : goal.returns-in_ok-copy-in-Const
returns-in_ok-copy-in-Const c prices cs =
    let text = c.in-Const.text in
    let is = constant_tree c.in_ok-copy-in-Const.field-0 ∙ ap constant c.in_ok-copy-in-Const.ensures in
    let kept = c.in_ok-copy-in-Const.field-0 in
    subst (λ i. IsBest (atom_rank prices) (λ a. ConstantFits cs i a) (atom_tree (Const kept))) (sym c.in-Const.is)
    (subst (IsBest (atom_rank prices) (λ a. ConstantFits cs (item.Const text) a)) (sym is) (best_constant prices cs text))
