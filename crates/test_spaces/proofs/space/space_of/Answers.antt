use Rattle.std.proofs.Common.{length, arith}
use Rattle.test_spaces.proofs.space.space_of.Goals as goal

pub returns-clause-longer : goal.returns-clause-longer
returns-clause-longer g c = c.first.ensures.marks.stays (length c.args.spaces.now.arena) (omega arith)
