use Rattle.std.proofs.Common.{◌∙◌, ℕ, List, [], ap, Bor}
use Rattle.std.specs.Prelude.{unwrap_or}
use Rattle.fill_records.proofs.Fields.{copied-unwrap_or}
use Rattle.fill_numbers.specs.Columns.{number_between}
use Rattle.fill_numbers.proofs.Spelled.{read_at}
use Rattle.fillcsv_rules.proofs.lines.column_at.Goals as goal

pub returns : goal.returns
returns c =
    let field = ap (λ (r : Bor (List ℕ)). r.now) c.unwrap_or.ensures ∙ copied-unwrap_or c.get.result _ ∙ ap (λ o. unwrap_or o []) c.get.ensures ∙ read_at c.args.line.now c.args.i [] in
    c.column_in.ensures ∙ ap (number_between 1 1000) field
