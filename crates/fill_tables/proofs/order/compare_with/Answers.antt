use Rattle.std.proofs.Common.{◌≡◌, ◌∙◌, ◌==◌, length, map, Some, None, slice_get, get_or, not, true, false, sym, arith}
use Rattle.std.specs.Ordering.{ordering_index}
use Rattle.std.proofs.lemmas.List.{length-map}
use Rattle.std.proofs.lemmas.Option.{slice_get_within}
use Rattle.fill_text.specs.Data.{nth}
use Rattle.fill_tables.specs.Orders.{cell_cmp}
use Rattle.fill_tables.proofs.Orders.{cells-longer, cells-rest, cells-step, past-last, then-decided, then-equal}
use Rattle.fill_tables.proofs.order.compare_with.Goals as goal

pub returns-in_default : goal.returns-in_default
returns-in_default c =
    let texts = map (λ cell. cell.now) c.args.cells.now in
    let none : slice_get texts c.loop-i.i ≡ None = rw c.in_default.is at (sym c.characters_at.ensures) in
    sym (c.loop-i.invariant.rest ∙ cells-longer c.args.row.now c.args.columns.now texts c.loop-i.i c.loop-i-test.true (past-last texts c.loop-i.i none))

pub returns : goal.returns
returns c =
    let texts = map (λ cell. cell.now) c.args.cells.now in
    let size : length texts ≡ length c.args.cells.now = length-map c.args.cells.now (λ cell. cell.now) in
    let last : c.loop-i.i ≡ length c.args.columns.now = omega arith in
    rw (← size) at c.cmp.ensures ∙ sym (c.loop-i.invariant.rest ∙ cells-rest c.args.row.now c.args.columns.now texts c.loop-i.i last c.loop-i.invariant.there)

pub returns-then-ne : goal.returns-then-ne
returns-then-ne c =
    let texts = map (λ cell. cell.now) c.args.cells.now in
    let some : slice_get texts c.loop-i.i ≡ Some c.in-Some.cell.now = rw c.in-Some.is at (sym c.characters_at.ensures) in
    let first = cell_cmp (nth c.args.row.now (get_or c.args.columns.now c.loop-i.i 0)) (Some c.in-Some.cell.now) in
    let step = cells-step c.args.row.now c.args.columns.now texts c.loop-i.i 0 c.in-Some.cell.now c.loop-i-test.true some in
    let apart : not (ordering_index first == 1) ≡ true = rw (← c.compare_cell-order.ensures) (sym c.ne.ensures ∙ c.if-ne.true) in
    c.compare_cell-order.ensures ∙ sym (c.loop-i.invariant.rest ∙ step ∙ then-decided first _ apart)

pub loop-i-preserved : goal.loop-i-preserved
loop-i-preserved c =
    let texts = map (λ cell. cell.now) c.args.cells.now in
    let some : slice_get texts c.loop-i.i ≡ Some c.in-Some.cell.now = rw c.in-Some.is at (sym c.characters_at.ensures) in
    let first = cell_cmp (nth c.args.row.now (get_or c.args.columns.now c.loop-i.i 0)) (Some c.in-Some.cell.now) in
    let step = cells-step c.args.row.now c.args.columns.now texts c.loop-i.i 0 c.in-Some.cell.now c.loop-i-test.true some in
    let alike : not (ordering_index first == 1) ≡ false = rw (← c.compare_cell-order.ensures) (sym c.ne.ensures ∙ c.if-ne.false) in
    let within = slice_get_within texts c.loop-i.i c.in-Some.cell.now some in
    record { there = omega arith; rest = c.loop-i.invariant.rest ∙ step ∙ then-equal first _ alike }
