use Rattle.fill_tree.specs.Meaning.{source_tree}
use Rattle.fill_arena.proofs.Scan.{here}
use Rattle.fill_object.specs.Kinds.{atoms_on}
use Rattle.fill_object.specs.Pieces.{IsPieceTo}
use Rattle.fill_object.proofs.Gains.{scan_none, scan_more, scan_done}
use Rattle.fill_object.proofs.KindLaws.{atoms_laws}
use Rattle.fill_object.proofs.atoms.put_between.Goals as goal

pub loop-left-init : goal.loop-left-init
loop-left-init c = scan_none (atoms_on c.args.on.now) (atoms_laws c.args.on.now) (λ x a. IsPieceTo (source_tree c.args.source.now) x.place c.args.rights.now a) c.args.lefts.now c.args.rivals.now.items

pub loop-left-preserved : goal.loop-left-preserved
loop-left-preserved c =
    let lefts = c.args.lefts.now in
    let i = c.loop-left.left-index in
    let x = c.left-item.result in
    scan_more (atoms_on c.args.on.now) (atoms_laws c.args.on.now) (λ y a. IsPieceTo (source_tree c.args.source.now) y.place c.args.rights.now a) lefts i x (here lefts i x c.loop-left-test.true c.left-item.is)
    c.args.rivals.now.items c.loop-left.rivals.items c.put_from.new.rivals.items c.loop-left.invariant c.in_ok-put_from.ensures

pub returns : goal.returns
returns c =
    scan_done (atoms_on c.args.on.now) (atoms_laws c.args.on.now) (λ x a. IsPieceTo (source_tree c.args.source.now) x.place c.args.rights.now a) c.args.lefts.now c.loop-left.left-index c.loop-left-test.false
    c.args.rivals.now.items c.loop-left.rivals.items c.loop-left.invariant
