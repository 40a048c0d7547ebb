use Rattle.std.proofs.Common.{sym}
use Rattle.csv.specs.Records.{fields_of}
use Rattle.fillcsv_rule_runs.proofs.Cells.{no_bad}
use Rattle.fillcsv_rule_runs.proofs.rows.PlacedRuleFilter.put.Goals as goal

pub fill-requires-clause-text : goal.fill-requires-clause-text
fill-requires-clause-text c = no_bad c.args.self.now.places.sources.items (fields_of c.args.row.now) (rw c.deref.ensures.value at (sym c.in-None.ensures))
