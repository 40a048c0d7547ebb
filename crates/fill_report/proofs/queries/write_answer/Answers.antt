use Rattle.std.proofs.Common.{◌∙◌, sym}
use Rattle.std.specs.Prelude.{codes}
use Rattle.fill_report.specs.Rows.{IsRowRecord}
use Rattle.fill_report.specs.declared.tasks.Query.TheVariants as query
use Rattle.fill_report.proofs.Questions.{no_row_left, row_left}
use Rattle.fill_report.proofs.queries.write_answer.Goals as goal

pub returns-then-has_row-clause-leaves : goal.returns-then-has_row-clause-leaves
returns-then-has_row-clause-leaves g c =
    let s = c.args.session.now in
    let row = c.args.row in
    row_left s.spaces.ground s.examples c.row_record.result c.write_made.result _ _ (query.Answer row) (codes "answer") row (IsRowRecord s.spaces.ground s.examples row) (λ w h. h) (λ w b. b)
    c.sheet.result.now c.sheet.ensures (sym c.has_row.ensures ∙ c.if-has_row.true) c.row_record.ensures c.write_made.ensures.leaves

pub returns-else-has_row-clause-leaves : goal.returns-else-has_row-clause-leaves
returns-else-has_row-clause-leaves g c =
    let s = c.args.session.now in
    let row = c.args.row in
    no_row_left s.spaces.ground s.examples c.no_row_record.result c.write_made-else-has_row.result _ _ (query.Answer row) (codes "answer") row (IsRowRecord s.spaces.ground s.examples row) (λ w h. h) (λ w b. b)
    c.sheet.result.now c.sheet.ensures (sym c.has_row.ensures ∙ c.if-has_row.false) c.no_row_record.ensures c.write_made-else-has_row.ensures.leaves
