use Rattle.std.proofs.Common.{◌∙◌}
use Rattle.csv.specs.Records.{fields_of}
use Rattle.fillcsv_rule_runs.proofs.RowFields.{field_here, field_there}
use Rattle.fillcsv_rule_runs.proofs.rows.other_field.Goals as goal

pub returns-then-i-here : goal.returns-then-i-here
returns-then-i-here c = field_here c.args.column c.args.field.now (fields_of c.args.row.now) c.args.i c.requires.column c.if-i-here.true

pub returns-else-i-here : goal.returns-else-i-here
returns-else-i-here c = c.field_at.ensures ∙ field_there c.args.column c.args.field.now (fields_of c.args.row.now) c.args.i c.if-i-here.false
