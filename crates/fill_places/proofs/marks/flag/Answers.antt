use Rattle.std.proofs.Common.{◌∙◌, arith}
use Rattle.fill_places.proofs.BitLaws.{flag_first, flag_later}
use Rattle.fill_places.proofs.marks.flag.Goals as goal

pub returns-then-k-lt64 : goal.returns-then-k-lt64
returns-then-k-lt64 c = c.bit.ensures ∙ flag_first c.args.first c.args.more.now c.args.k (omega arith)

pub returns : goal.returns
returns c = c.flag_among.ensures ∙ flag_later c.args.first c.args.more.now c.args.k (omega arith)
