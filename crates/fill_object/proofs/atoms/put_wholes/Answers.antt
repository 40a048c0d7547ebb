use Rattle.std.proofs.Common.{◌≡◌, sym, ap, ◌∙◌}
use Rattle.fill_tree.specs.Meaning.{atom_tree, source_tree}
use Rattle.fill_tree.specs.Tree.{whole}
use Rattle.fill_tree.specs.declared.tree.Atom.TheVariants.{Whole}
use Rattle.fill_arena.specs.Contents.{SomeIn}
use Rattle.fill_arena.specs.declared.entry.AtomItem.TheVariants as item
use Rattle.fill_arena.proofs.Scan.{here}
use Rattle.fill_arena.specs.Stands.{PartFits}
use Rattle.fill_arena.proofs.Trees.{whole_tree}
use Rattle.fill_object.specs.Kinds.{atoms_on}
use Rattle.fill_object.proofs.Gains.{scan_none, scan_more, scan_done, gains_same, gains_through}
use Rattle.fill_object.proofs.KindLaws.{atoms_laws}
use Rattle.fill_object.proofs.Made.{whole_fits, fits_whole}
use Rattle.fill_object.proofs.atoms.put_wholes.Goals as goal

pub loop-source-init : goal.loop-source-init
loop-source-init c = scan_none (atoms_on c.args.on.now) (atoms_laws c.args.on.now) (λ x a. a ≡ whole (source_tree x.source)) c.args.sources.now c.args.rivals.now.items

pub loop-source-preserved : goal.loop-source-preserved
loop-source-preserved c =
    let on = c.args.on.now in
    let sources = c.args.sources.now in
    let i = c.loop-source.source-index in
    let x = c.source-item.result in
    let copied = c.in_ok-copied.copied in
    let tree : atom_tree (Whole c.in_ok-copied.copied) ≡ whole (source_tree c.source-item.result.source) = whole_tree copied ∙ ap whole c.in_ok-copied.ensures in
    let mid = c.loop-source.rivals.items in
    let new = c.put_atom.new.rivals.items in
    scan_more (atoms_on on) (atoms_laws on) (λ y a. a ≡ whole (source_tree y.source)) sources i x (here sources i x c.loop-source-test.true c.source-item.is) c.args.rivals.now.items mid new c.loop-source.invariant
    (gains_same (atoms_on on) (atoms_laws on) (λ a. a ≡ atom_tree (Whole copied)) (λ a. a ≡ whole (source_tree x.source)) (λ a e. e ∙ tree) (λ a e. e ∙ sym tree) mid new c.in_ok-put_atom.ensures)

pub returns : goal.returns
returns c s are =
    let on = c.args.on.now in
    let sources = c.args.sources.now in
    let old = c.args.rivals.now.items in
    let new = c.loop-source.rivals.items in
    gains_through (atoms_on on) (atoms_laws on) (λ a. SomeIn (λ x. a ≡ whole (source_tree x.source)) sources) (PartFits on.arena.now (item.Whole s)) (whole_fits on s sources are) (fits_whole on s sources are)
    old new (scan_done (atoms_on on) (atoms_laws on) (λ x a. a ≡ whole (source_tree x.source)) sources c.loop-source.source-index c.loop-source-test.false old new c.loop-source.invariant)
