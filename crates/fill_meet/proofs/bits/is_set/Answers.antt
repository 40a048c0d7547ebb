use Rattle.fill_meet.proofs.Words.{shifted}
use Rattle.fill_meet.proofs.bits.is_set.Goals as goal

pub returns : goal.returns
returns c = shifted c.args.word c.args.i
