use Rattle.fill_places.proofs.BitLaws.{masked_ones}
use Rattle.fill_places.proofs.marks.ones_below.Goals as goal

pub returns-clause-count : goal.returns-clause-count
returns-clause-count c = masked_ones c.args.w c.args.m c.requires
