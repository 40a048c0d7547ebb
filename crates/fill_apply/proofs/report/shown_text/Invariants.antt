use Rattle.std.proofs.Common.{◌≡◌, ℕ, List, true, Some}
use Rattle.csv.specs.Reading.{Ready, default_config, source_of}
use Rattle.csv.specs.declared.reader.Trim.TheVariants as trim
use Rattle.fill_records.proofs.Runs.{Reading}
use Rattle.fill_apply.specs.Saved.{shown_text}
use Rattle.fill_apply.proofs.report.shown_text.Given as goal

-- some records were read, and the text is that of the last of them that shows one
abbrev pub invariant-loop : goal.invariant-loop
invariant-loop l = record {
  trims : l.reader.trim ≡ trim.None;
  ready : Ready l.reader;
  flexible : l.reader.flexible ≡ true;
  config : l.reader.config ≡ default_config;
  reading : (done : List (List (List ℕ))) × Reading l.fn.bytes done l.counter l.reader.state (source_of (λ s. Some s.now) l.reader) × (l.text ≡ shown_text done);
}
