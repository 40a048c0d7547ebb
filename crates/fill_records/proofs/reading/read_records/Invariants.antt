use Rattle.std.proofs.Common.{◌≡◌, true, Some}
use Rattle.csv.specs.Reading.{Ready, default_config, source_of}
use Rattle.csv.specs.declared.reader.Trim.TheVariants as trim
use Rattle.fill_records.proofs.Runs.{Reading}
use Rattle.fill_records.proofs.reading.read_records.Given as goal

abbrev pub invariant-loop : goal.invariant-loop
invariant-loop l = record {
  trims : l.reader.trim ≡ trim.None;
  ready : Ready l.reader;
  flexible : l.reader.flexible ≡ true;
  config : l.reader.config ≡ default_config;
  reading : Reading l.fn.bytes l.records l.counter l.reader.state (source_of (λ s. Some s.now) l.reader);
}
