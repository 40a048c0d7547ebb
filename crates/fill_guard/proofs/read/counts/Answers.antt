use Rattle.std.proofs.Common.{arith}
use Rattle.fill_guard.specs.Matches.{IsMatchCount}
use Rattle.fill_guard.proofs.MaskLaws.{zip_more}
use Rattle.fill_guard.proofs.read.counts.Goals as goal

pub loop-cell-preserved : goal.loop-cell-preserved
loop-cell-preserved c =
    zip_more (IsMatchCount c.args.seq.now) c.args.cells.now c.loop-cell.counts.items c.push.new.self.items c.loop-cell.cell-index c.cell-item.result c.count.result
    (omega arith) c.cell-item.is c.in_ok-push.ensures.items c.loop-cell.invariant c.count.ensures
