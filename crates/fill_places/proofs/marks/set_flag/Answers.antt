use Rattle.std.proofs.Common.{arith}
use Rattle.fill_places.proofs.BitLaws.{first_here, first_elsewhere, later_here, later_elsewhere}
use Rattle.fill_places.proofs.marks.set_flag.Goals as goal

pub returns-then-k-lt64-clause-there : goal.returns-then-k-lt64-clause-there
returns-then-k-lt64-clause-there c = first_here c.args.first.now c.args.more.now.items c.args.k (omega arith)

pub returns-then-k-lt64-clause-others : goal.returns-then-k-lt64-clause-others
returns-then-k-lt64-clause-others c = λ j other. first_elsewhere c.args.first.now c.args.more.now.items c.args.k j (omega arith) other

pub returns-clause-there : goal.returns-clause-there
returns-clause-there c = later_here c.args.first.now c.set_among.new.words.items c.args.k (omega arith) c.set_among.ensures.there

pub returns-clause-others : goal.returns-clause-others
returns-clause-others c = λ j other. later_elsewhere c.args.first.now c.args.more.now.items c.set_among.new.words.items c.args.k j (omega arith) c.set_among.ensures.others other
