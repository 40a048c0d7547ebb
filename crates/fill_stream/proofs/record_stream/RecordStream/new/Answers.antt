use Rattle.fill_stream.proofs.Lefts.{records_start}
use Rattle.fill_stream.proofs.record_stream.RecordStream.new.Goals as goal

pub returns : goal.returns
returns g c = records_start g.R.Read.remaining c.from_reader-reader.result (g.R.Read.remaining c.args.reader) c.from_reader-reader.ensures.state c.from_reader-reader.ensures.source
