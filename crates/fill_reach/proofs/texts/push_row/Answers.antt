use Rattle.std.proofs.Common.{◌+◌, map, arith}
use Rattle.fill_reach.specs.Spots.{spot_of}
use Rattle.fill_reach.proofs.StepLaws.{free_skip, free_more, free_all}
use Rattle.fill_reach.proofs.texts.push_row.Goals as goal

pub loop-column-preserved-then-not-is_free : goal.loop-column-preserved-then-not-is_free
loop-column-preserved-then-not-is_free c =
    free_skip c.args.tables.now (spot_of c.args.row) c.loop-column.column (map (λ text. text.now) c.args.texts.now.items) (map (λ text. text.now) c.loop-column.texts.items)
    (λ free. let is = c.is_free.ensures.1 free in let not' = c.if-not-is_free.true in cc) c.loop-column.invariant

pub loop-column-preserved : goal.loop-column-preserved
loop-column-preserved c =
    free_more c.args.tables.now (spot_of c.args.row) c.loop-column.column c.cell.result.now (map (λ text. text.now) c.args.texts.now.items) (map (λ text. text.now) c.loop-column.texts.items)
    (map (λ text. text.now) c.push_text.new.texts.items) (c.is_free.ensures.0 c.if-not-is_free.false) c.cell.ensures c.loop-column.invariant c.in_ok-push_text.ensures

pub returns-then-not-is_free : goal.returns-then-not-is_free
returns-then-not-is_free c =
    free_all c.args.tables.now (spot_of c.args.row) (c.loop-column.column + 1) c.width-column-end.result (map (λ text. text.now) c.args.texts.now.items) (map (λ text. text.now) c.loop-column.texts.items)
    c.width-column-end.ensures (omega arith)
    (free_skip c.args.tables.now (spot_of c.args.row) c.loop-column.column (map (λ text. text.now) c.args.texts.now.items) (map (λ text. text.now) c.loop-column.texts.items)
    (λ free. let is = c.is_free.ensures.1 free in let not' = c.if-not-is_free.true in cc) c.loop-column.invariant)

pub returns-in_ok-push_text : goal.returns-in_ok-push_text
returns-in_ok-push_text c =
    free_all c.args.tables.now (spot_of c.args.row) (c.loop-column.column + 1) c.width-column-end.result (map (λ text. text.now) c.args.texts.now.items) (map (λ text. text.now) c.push_text.new.texts.items)
    c.width-column-end.ensures (omega arith)
    (free_more c.args.tables.now (spot_of c.args.row) c.loop-column.column c.cell.result.now (map (λ text. text.now) c.args.texts.now.items) (map (λ text. text.now) c.loop-column.texts.items)
    (map (λ text. text.now) c.push_text.new.texts.items) (c.is_free.ensures.0 c.if-not-is_free.false) c.cell.ensures c.loop-column.invariant c.in_ok-push_text.ensures)
