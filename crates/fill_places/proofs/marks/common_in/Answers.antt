use Rattle.std.proofs.Common.{arith}
use Rattle.fill_places.proofs.BitLaws.{first_common, all_common}
use Rattle.fill_places.proofs.marks.common_in.Goals as goal

pub returns-then-k-lt64 : goal.returns-then-k-lt64
returns-then-k-lt64 c = first_common c.args.a c.args.b c.args.more_a.now c.args.more_b.now c.args.k c.ones_below.result (omega arith) c.ones_below.ensures.count

pub returns : goal.returns
returns c = all_common c.args.a c.args.b c.args.more_a.now c.args.more_b.now c.args.k c.ones.result c.common_among.result (omega arith) c.ones.ensures.count c.common_among.ensures.count
