use Rattle.std.proofs.Common.{ap, ◌∙◌}
use Rattle.fill_tree.specs.Meaning.{atom_tree}
use Rattle.fill_tree.specs.Tree.{constant}
use Rattle.fill_tree.specs.declared.tree.Atom.TheVariants.{Const}
use Rattle.fill_arena.proofs.Items.{ok_on}
use Rattle.fill_arena.proofs.Trees.{constant_tree}
use Rattle.fill_object.specs.Kinds.{rows_on}
use Rattle.fill_object.specs.Rows.{IsFixed}
use Rattle.fill_object.proofs.Gains.{gains_none}
use Rattle.fill_object.proofs.RowLaws.{row_laws, fixed_front}
use Rattle.fill_object.proofs.rows.put_constant.Goals as goal

pub returns-in_ok-copy-in-Some : goal.returns-in_ok-copy-in-Some
returns-in_ok-copy-in-Some c =
    let copied = c.in_ok-copy-in-Some.field-0 in
    ok_on _ _ c.put_before.result c.put_before.ensures
    (λ u h on. fixed_front on c.args.constant.now c.in-Some.text (atom_tree (Const copied)) c.in-Some.is (constant_tree copied ∙ ap constant c.in_ok-copy-in-Some.ensures) c.args.rests.now
    c.args.fronts.now.items c.put_before.new.fronts.items (h on))

pub returns-in-None : goal.returns-in-None
returns-in-None c on = gains_none (rows_on on) (row_laws on) (IsFixed c.args.constant.now c.args.rests.now) (λ y h. let is = c.in-None.is in let other = h.1 in cc) c.args.fronts.now.items
