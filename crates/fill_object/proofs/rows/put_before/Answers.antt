use Rattle.std.proofs.Common.{◌≡◌}
use Rattle.fill_tree.specs.Meaning.{atom_tree, program_tree}
use Rattle.fill_tree.specs.Tree.{more}
use Rattle.fill_arena.proofs.Scan.{here}
use Rattle.fill_object.specs.Kinds.{rows_on}
use Rattle.fill_object.proofs.Gains.{scan_none, scan_more, scan_done}
use Rattle.fill_object.proofs.RowLaws.{row_laws, gains_row}
use Rattle.fill_object.proofs.rows.put_before.Goals as goal

pub loop-rest-init : goal.loop-rest-init
loop-rest-init c on = scan_none (rows_on on) (row_laws on) (λ q y. y ≡ more (atom_tree c.args.condition.now) (program_tree q)) c.args.rests.now c.args.fronts.now.items

pub loop-rest-preserved : goal.loop-rest-preserved
loop-rest-preserved c on =
    let rests = c.args.rests.now in
    let i = c.loop-rest.rest-index in
    let x = c.rest-item.result in
    let mid = c.loop-rest.fronts.items in
    let new = c.push.new.self.items in
    scan_more (rows_on on) (row_laws on) (λ q y. y ≡ more (atom_tree c.args.condition.now) (program_tree q)) rests i x (here rests i x c.loop-rest-test.true c.rest-item.is) c.args.fronts.now.items mid new
    (c.loop-rest.invariant on) (gains_row on c.in_ok-with_first.field-0 (more (atom_tree c.args.condition.now) (program_tree x)) mid new c.in_ok-push.ensures.items c.in_ok-with_first.ensures)

pub returns : goal.returns
returns c on =
    scan_done (rows_on on) (row_laws on) (λ q y. y ≡ more (atom_tree c.args.condition.now) (program_tree q)) c.args.rests.now c.loop-rest.rest-index c.loop-rest-test.false
    c.args.fronts.now.items c.loop-rest.fronts.items (c.loop-rest.invariant on)
