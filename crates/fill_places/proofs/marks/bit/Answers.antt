use Rattle.fill_places.proofs.BitLaws.{shifted}
use Rattle.fill_places.proofs.marks.bit.Goals as goal

pub returns : goal.returns
returns c = shifted c.args.w c.args.i
