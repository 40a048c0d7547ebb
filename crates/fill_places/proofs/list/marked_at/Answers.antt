use Rattle.std.proofs.Common.{arith}
use Rattle.fill_places.proofs.RowLaws.{marked_none, marked_all}
use Rattle.fill_places.proofs.list.marked_at.Goals as goal

pub loop-i-init : goal.loop-i-init
loop-i-init c = marked_none c.args.entries.now c.args.k c.in_ok-numbers.numbers

pub loop-i-preserved : goal.loop-i-preserved
loop-i-preserved c = c.in_ok-push_number.ensures c.in_ok-numbers.numbers c.loop-i.invariant

pub returns : goal.returns
returns c = marked_all c.args.entries.now c.args.k c.loop-i.i c.in_ok-numbers.numbers c.loop-i.numbers c.in_ok-numbers.ensures (omega arith) c.loop-i.invariant
