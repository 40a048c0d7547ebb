use Rattle.std.proofs.Common.{◌∙◌, ap}
use Rattle.std.specs.Prelude.{option_map}
use Rattle.fill_passes.proofs.Known.{when_some}
use Rattle.fill_records.specs.Records.{records_of}
use Rattle.fillcsv_filling.specs.Long.{IsSeen}
use Rattle.fillcsv_run.specs.Opening.{most_records}
use Rattle.fillcsv_run.proofs.opening.scan.Goals as goal

pub returns-in-Ok-clause-scanned : goal.returns-in-Ok-clause-scanned
returns-in-Ok-clause-scanned g c = λ bytes told mark.
    let fresh = c.requires ∙ ap (option_map records_of) told in
    let seen = when_some (λ records. IsSeen c.args.asked.now.header most_records records c.in-Ok.seen) c.args.pass (records_of bytes) fresh c.in-Ok.ensures in
    c.sheet_in-scanned.ensures.scanned bytes (c.again-pass.ensures ∙ ap (option_map records_of) told) seen mark
