use Rattle.fill_arena.proofs.Scan.{here}
use Rattle.fill_arena.specs.Stands.{ConstantFits}
use Rattle.fill_object.specs.Kinds.{atoms_on}
use Rattle.fill_object.proofs.Gains.{scan_none, scan_more, scan_done}
use Rattle.fill_object.proofs.KindLaws.{atoms_laws}
use Rattle.fill_object.proofs.edges.put_constants.Goals as goal

pub loop-item-init : goal.loop-item-init
loop-item-init c = scan_none (atoms_on c.args.on.now) (atoms_laws c.args.on.now) (λ i a. ConstantFits c.args.on.now.arena.now i a) c.args.items.now c.args.rivals.now.items

pub loop-item-preserved : goal.loop-item-preserved
loop-item-preserved c =
    let items = c.args.items.now in
    let i = c.loop-item.item-index in
    let x = c.item-item.result in
    scan_more (atoms_on c.args.on.now) (atoms_laws c.args.on.now) (λ j a. ConstantFits c.args.on.now.arena.now j a) items i x (here items i x c.loop-item-test.true c.item-item.is)
    c.args.rivals.now.items c.loop-item.rivals.items c.put_constant.new.rivals.items c.loop-item.invariant c.in_ok-put_constant.ensures

pub returns : goal.returns
returns c =
    scan_done (atoms_on c.args.on.now) (atoms_laws c.args.on.now) (λ i a. ConstantFits c.args.on.now.arena.now i a) c.args.items.now c.loop-item.item-index c.loop-item-test.false
    c.args.rivals.now.items c.loop-item.rivals.items c.loop-item.invariant
