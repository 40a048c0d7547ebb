use Rattle.fill_records.proofs.Few.{few}
use Rattle.fill_records.proofs.laws.records_are_few.Goals as goal

pub returns : goal.returns
returns c = few c.args.bytes.now
