use Rattle.std.proofs.Common.{◌∙◌, ℕ, List, [], ap, Bor}
use Rattle.std.specs.Prelude.{unwrap_or}
use Rattle.csv.specs.Records.{fields_of}
use Rattle.fill_records.proofs.Fields.{field_at-slice_get, copied-unwrap_or}
use Rattle.fillcsv_rule_runs.proofs.fields.field_at.Goals as goal

pub returns : goal.returns
returns c =
    let found = c.get.ensures.value ∙ field_at-slice_get (fields_of c.args.row.now) c.args.i in
    ap (λ (r : Bor (List ℕ)). r.now) c.unwrap_or.ensures ∙ copied-unwrap_or c.get.result _ ∙ ap (λ o. unwrap_or o []) found
