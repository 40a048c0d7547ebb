use Rattle.std.proofs.Common.{arith}
use Rattle.fill_arena.specs.WellMade.{IsSized}
use Rattle.fill_arena.proofs.Scan.{all_end, all_more, here}
use Rattle.fill_arena.proofs.sized.keep_sizes.Goals as goal

pub loop-i-init : goal.loop-i-init
loop-i-init c = record { all = λ k p lt at. absurd (omega arith) }

pub loop-i-preserved : goal.loop-i-preserved
loop-i-preserved c =
    let xs = c.args.places.now in
    let i = c.loop-i.i in
    all_more IsSized xs i c.index-places-i.result (here xs i c.index-places-i.result c.loop-i-test.true c.index-places-i.is) c.loop-i.invariant c.keeps_size.ensures

pub returns : goal.returns
returns c = all_end IsSized c.args.places.now c.loop-i.i c.loop-i-test.false c.loop-i.invariant
