use Rattle.fill_tree.specs.Meaning.{atom_tree}
use Rattle.fill_arena.proofs.Scan.{here}
use Rattle.fill_object.specs.Kinds.{rows_on}
use Rattle.fill_object.specs.Rows.{IsFront}
use Rattle.fill_object.proofs.Gains.{scan_none, scan_more, scan_done}
use Rattle.fill_object.proofs.RowLaws.{row_laws}
use Rattle.fill_object.proofs.rows.put_parts.Goals as goal

pub loop-part-init : goal.loop-part-init
loop-part-init c on = scan_none (rows_on on) (row_laws on) (λ x y. IsFront (atom_tree x.atom) c.args.rests.now y) c.args.parts.now c.args.fronts.now.items

pub loop-part-preserved : goal.loop-part-preserved
loop-part-preserved c on =
    let parts = c.args.parts.now in
    let i = c.loop-part.part-index in
    let x = c.part-item.result in
    scan_more (rows_on on) (row_laws on) (λ x y. IsFront (atom_tree x.atom) c.args.rests.now y) parts i x (here parts i x c.loop-part-test.true c.part-item.is) c.args.fronts.now.items c.loop-part.fronts.items
    c.put_before.new.fronts.items (c.loop-part.invariant on) (c.in_ok-put_before.ensures on)

pub returns : goal.returns
returns c on =
    scan_done (rows_on on) (row_laws on) (λ x y. IsFront (atom_tree x.atom) c.args.rests.now y) c.args.parts.now c.loop-part.part-index c.loop-part-test.false
    c.args.fronts.now.items c.loop-part.fronts.items (c.loop-part.invariant on)
