use Rattle.fill_records.proofs.Firsts.{take-min}
use Rattle.fill_records.proofs.reading.first_records.Goals as goal

pub returns : goal.returns
returns c = rw c.min.ensures (take-min c.args.records.now c.args.most)
