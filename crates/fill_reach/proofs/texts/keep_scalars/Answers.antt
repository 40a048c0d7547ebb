use Rattle.std.proofs.Common.{All}
use Rattle.std.specs.Char.{IsScalar}
use Rattle.fill_reach.specs.Spots.{spot_of}
use Rattle.fill_reach.proofs.StepLaws.{hold_more, hold_all}
use Rattle.fill_reach.proofs.texts.keep_scalars.Goals as goal

pub loop-column-preserved : goal.loop-column-preserved
loop-column-preserved c =
    hold_more (All IsScalar) c.args.tables.now (spot_of c.args.row) c.key-column-items.result.now c.loop-column.column-index 0 c.cell.result.now c.loop-column-test.true c.cell.ensures
    c.keeps_scalars.ensures c.loop-column.invariant

pub returns : goal.returns
returns c =
    hold_all (All IsScalar) c.args.tables.now (spot_of c.args.row) c.key-column-items.result.now c.loop-column.column-index c.key-column-items.ensures c.loop-column-test.false c.loop-column.invariant
