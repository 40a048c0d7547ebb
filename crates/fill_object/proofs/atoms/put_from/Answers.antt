use Rattle.std.proofs.Common.{◌≡◌, sym, ap, ◌∙◌}
use Rattle.fill_tree.specs.Meaning.{atom_tree, source_tree}
use Rattle.fill_tree.specs.Tree.{sub}
use Rattle.fill_tree.specs.declared.tree.Atom.TheVariants.{Sub}
use Rattle.fill_arena.proofs.Scan.{here}
use Rattle.fill_arena.proofs.Trees.{sub_tree}
use Rattle.fill_object.specs.Kinds.{atoms_on}
use Rattle.fill_object.proofs.Gains.{scan_none, scan_more, scan_done, gains_same}
use Rattle.fill_object.proofs.KindLaws.{atoms_laws}
use Rattle.fill_object.proofs.atoms.put_from.Goals as goal

pub loop-right-init : goal.loop-right-init
loop-right-init c = scan_none (atoms_on c.args.on.now) (atoms_laws c.args.on.now) (λ r a. a ≡ sub (source_tree c.args.source.now) c.args.left.now r.place) c.args.rights.now c.args.rivals.now.items

pub loop-right-preserved : goal.loop-right-preserved
loop-right-preserved c =
    let on = c.args.on.now in
    let rights = c.args.rights.now in
    let i = c.loop-right.right-index in
    let x = c.right-item.result in
    let copied = c.in_ok-copied.copied in
    let tree : atom_tree (Sub c.in_ok-copied.copied c.args.left.now c.right-item.result.place) ≡ sub (source_tree c.args.source.now) c.args.left.now c.right-item.result.place =
    sub_tree copied c.args.left.now x.place ∙ ap (λ y. sub y c.args.left.now x.place) c.in_ok-copied.ensures in
    let mid = c.loop-right.rivals.items in
    let new = c.put_atom.new.rivals.items in
    scan_more (atoms_on on) (atoms_laws on) (λ r a. a ≡ sub (source_tree c.args.source.now) c.args.left.now r.place) rights i x (here rights i x c.loop-right-test.true c.right-item.is)
    c.args.rivals.now.items mid new c.loop-right.invariant
    (gains_same (atoms_on on) (atoms_laws on) (λ a. a ≡ atom_tree (Sub copied c.args.left.now x.place)) (λ a. a ≡ sub (source_tree c.args.source.now) c.args.left.now x.place) (λ a e. e ∙ tree) (λ a e. e ∙ sym tree)
    mid new c.in_ok-put_atom.ensures)

pub returns : goal.returns
returns c =
    scan_done (atoms_on c.args.on.now) (atoms_laws c.args.on.now) (λ r a. a ≡ sub (source_tree c.args.source.now) c.args.left.now r.place) c.args.rights.now c.loop-right.right-index c.loop-right-test.false
    c.args.rivals.now.items c.loop-right.rivals.items c.loop-right.invariant
