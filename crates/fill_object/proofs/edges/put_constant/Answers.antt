use Rattle.std.proofs.Common.{◌≡◌, ap, sym, subst, ◌∙◌}
use Rattle.fill_tree.specs.Meaning.{atom_tree}
use Rattle.fill_tree.specs.Tree.{constant}
use Rattle.fill_tree.specs.declared.tree.Atom.TheVariants.{Const}
use Rattle.fill_arena.specs.declared.entry.AtomItem.TheVariants as item
use Rattle.fill_arena.specs.Stands.{ConstantFits}
use Rattle.fill_arena.proofs.Items.{ok_on}
use Rattle.fill_arena.proofs.Trees.{constant_tree}
use Rattle.fill_object.specs.Kinds.{atoms_on}
use Rattle.fill_object.specs.Leasts.{Gains}
use Rattle.fill_object.proofs.Gains.{gains_none, gains_same}
use Rattle.fill_object.proofs.KindLaws.{atoms_laws}
use Rattle.fill_object.proofs.Made.{constant_fits_it, fits_constant, no_constant_else}
use Rattle.fill_object.proofs.edges.put_constant.Goals as goal

pub returns-in_ok-copy-in-Const : goal.returns-in_ok-copy-in-Const
returns-in_ok-copy-in-Const c =
    let on = c.args.on.now in
    let t = c.in-Const.text in
    let copied = c.in_ok-copy-in-Const.field-0 in
    let tree : atom_tree (Const c.in_ok-copy-in-Const.field-0) ≡ constant c.in-Const.text = constant_tree copied ∙ ap constant c.in_ok-copy-in-Const.ensures in
    let old = c.args.rivals.now.items in
    let new = c.put_atom.new.rivals.items in
    ok_on _ _ c.put_atom.result c.put_atom.ensures
    (λ u h. subst (λ it. Gains (atoms_on on) (ConstantFits on.arena.now it) old new) (sym c.in-Const.is)
    (gains_same (atoms_on on) (atoms_laws on) (λ a. a ≡ atom_tree (Const copied)) (ConstantFits on.arena.now (item.Const t)) (λ a e. constant_fits_it on.arena.now t a (e ∙ tree))
    (λ a f. fits_constant on.arena.now t a f ∙ sym tree) old new h))

pub returns-in_default : goal.returns-in_default
returns-in_default c =
    gains_none (atoms_on c.args.on.now) (atoms_laws c.args.on.now) (ConstantFits c.args.on.now.arena.now c.args.item.now)
    (no_constant_else c.args.on.now.arena.now c.args.item.now c.in_default.not-Const) c.args.rivals.now.items
