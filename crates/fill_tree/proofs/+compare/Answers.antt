use Rattle.std.proofs.Common.{◌≡◌, ◌∙◌, min, length, arith}
use Rattle.fill_tree.proofs.AtomLists.{atoms_cmp-drop}
use Rattle.fill_tree.proofs.+compare.Goals as goal

pub order::compare_atoms-returns : goal.order::compare_atoms-returns
order::compare_atoms-returns t c =
    let at : c.loop-i.i ≡ min (length c.args.a.now) (length c.args.b.now) = omega arith in
    c.cmp.ensures ∙ atoms_cmp-drop _ _ c.loop-i.i at ∙ c.loop-i.invariant
