use Rattle.std.proofs.Common.{◌≡◌, ◌<◌, ◌≤◌, length, Some, true, refl, subst, arith}
use Rattle.fill_arena.proofs.Scan.{here}
use Rattle.fill_eval.specs.Piece.{piece_text}
use Rattle.fill_doubt.specs.Answers.{Gains}
use Rattle.fill_doubt.specs.Rows.{CellsHave, cell_choice, choice_of}
use Rattle.fill_doubt.specs.declared.conditions.Cells.{Cells}
use Rattle.fill_doubt.proofs.Gains.{below_start, below_more, below_end, have_start}
use Rattle.fill_doubt.proofs.Ways.{cells_listed}
use Rattle.fill_doubt.proofs.conditions.cells_of.Goals as goal

pub loop-i-init : goal.loop-i-init
loop-i-init c = below_start (λ x o. o ≡ Some (choice_of (piece_text x) true)) c.args.parts.now.pieces.items (CellsHave c.put_constant.new.self)

pub as_slice-requires : goal.as_slice-requires
as_slice-requires c =
    let xs = c.args.parts.now.pieces in
    let lt : c.loop-i.i < length xs.items = (let n = xs.ok.0 in let l = c.len-i-end.ensures in let t = c.loop-i-test.true in omega arith) in
    record { within = c.requires c.loop-i.i c.index.result.now (here xs.items c.loop-i.i c.index.result.now lt c.index.ensures) }

pub loop-i-preserved : goal.loop-i-preserved
loop-i-preserved c =
    let xs = c.args.parts.now.pieces in
    let x = c.index.result.now in
    let lt : c.loop-i.i < length xs.items = (let n = xs.ok.0 in let l = c.len-i-end.ensures in let t = c.loop-i-test.true in omega arith) in
    below_more (λ y o. o ≡ Some (choice_of (piece_text y) true)) xs.items (CellsHave c.put_constant.new.self) (CellsHave c.loop-i.made) (CellsHave c.put.new.self) c.loop-i.i x
    (here xs.items c.loop-i.i x lt c.index.ensures) c.loop-i.invariant
    (subst (λ t. Gains (CellsHave c.loop-i.made) (CellsHave c.put.new.self) (λ o. o ≡ Some (choice_of t true))) c.as_slice.ensures c.in_ok-put.ensures)

pub returns : goal.returns
returns c =
    let xs = c.args.parts.now.pieces in
    let past : length xs.items ≤ c.loop-i.i = (let n = xs.ok.0 in let l = c.len-i-end.ensures in let t = c.loop-i-test.false in omega arith) in
    let all = below_end (λ y o. o ≡ Some (choice_of (piece_text y) true)) xs.items (CellsHave c.put_constant.new.self) (CellsHave c.loop-i.made) c.loop-i.i past c.loop-i.invariant in
    let start : Cells = record { cells = c.new.result; none = c.args.parts.now.none } in
    cells_listed c.args.constant.now c.args.parts.now (CellsHave start) (CellsHave c.put_constant.new.self) (CellsHave c.loop-i.made) (have_start cell_choice c.new.result.items c.args.parts.now.none c.args.parts.now.none c.new.ensures.items refl) c.in_ok-put_constant.ensures all
