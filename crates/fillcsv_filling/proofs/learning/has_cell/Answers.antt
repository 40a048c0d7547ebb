use Rattle.std.proofs.Common.{◌∙◌, List, ℕ, Option, ap, length}
use Rattle.std.specs.Prelude.{◌==◌}
use Rattle.fill_sheet.specs.Sheet.{given_in}
use Rattle.fillcsv_filling.proofs.Giving.{empty_cell}
use Rattle.fillcsv_filling.proofs.learning.has_cell.Goals as goal

pub returns-in-Some : goal.returns-in-Some
returns-in-Some c = λ none.
    ap (λ (o : Option ℕ). given_in o c.args.row.now.fields) c.in-Some.is
    ∙ empty_cell c.in-Some.column c.args.row.now.fields c.is_empty.result (c.is_empty.ensures ∙ ap (λ (l : List ℕ). length l == 0) c.field.ensures) none
