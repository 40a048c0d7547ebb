use Rattle.std.proofs.Common.{arith}
use Rattle.fill_places.proofs.HopLaws.{hops_none, hops_all}
use Rattle.fill_places.proofs.entry.marks_reached.Goals as goal

pub loop-i-init : goal.loop-i-init
loop-i-init c = hops_none c.args.at.now c.args.from.now c.args.to.now c.args.n c.in_ok-marks.marks c.in_ok-marks.ensures

pub mark_place-requires-clause-room : goal.mark_place-requires-clause-room
mark_place-requires-clause-room c = c.loop-i.invariant.size

pub loop-i-preserved : goal.loop-i-preserved
loop-i-preserved c = c.mark_place.ensures c.loop-i.invariant

pub returns : goal.returns
returns c = hops_all c.args.at.now c.args.from.now c.args.to.now c.loop-i.i c.args.n c.loop-i.marks (omega arith) c.loop-i.invariant
