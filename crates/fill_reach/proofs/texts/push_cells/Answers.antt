use Rattle.std.proofs.Common.{map}
use Rattle.fill_reach.proofs.StepLaws.{cells_skip, cells_more, cells_all}
use Rattle.fill_reach.proofs.texts.push_cells.Goals as goal

pub loop-row-preserved-then-row-depth : goal.loop-row-preserved-then-row-depth
loop-row-preserved-then-row-depth c =
    cells_skip c.args.tables.now c.args.rows.now c.args.depth c.loop-row.row-index (record { table = 0; key = 0; row = 0; depth = 0 }) (map (λ text. text.now) c.args.texts.now.items)
    (map (λ text. text.now) c.loop-row.texts.items) c.if-row-depth.true c.loop-row.invariant

pub loop-row-preserved : goal.loop-row-preserved
loop-row-preserved c =
    cells_more c.args.tables.now c.args.rows.now c.args.depth c.loop-row.row-index (record { table = 0; key = 0; row = 0; depth = 0 }) (map (λ text. text.now) c.args.texts.now.items)
    (map (λ text. text.now) c.loop-row.texts.items) (map (λ text. text.now) c.push_row.new.texts.items) c.loop-row-test.true c.if-row-depth.false c.loop-row.invariant c.in_ok-push_row.ensures

pub returns : goal.returns
returns c =
    cells_all c.args.tables.now c.args.rows.now c.args.depth c.loop-row.row-index (map (λ text. text.now) c.args.texts.now.items) (map (λ text. text.now) c.loop-row.texts.items)
    c.loop-row-test.false c.loop-row.invariant
