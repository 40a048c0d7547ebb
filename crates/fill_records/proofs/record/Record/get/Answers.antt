use Rattle.std.proofs.Common.{◌∙◌}
use Rattle.csv.specs.Records.{fields_of}
use Rattle.fill_records.proofs.Fields.{field_at-slice_get}
use Rattle.fill_records.proofs.record.Record.get.Goals as goal

pub returns : goal.returns
returns c = rw (← c.self.view_is) (c.get.ensures.value ∙ field_at-slice_get (fields_of c.self.inside.row) c.args.i)
