-- The record of a row by what is typed, what its cell gives and its answer.
use Rattle.std.proofs.Common.{◌∙◌, ◌<◌, length, subst, sym}
use Rattle.std.specs.Prelude.{option_copied}
use Rattle.fill_output.specs.Fields.{Fields}
use Rattle.fillcsv_rows.proofs.Written.{some_filled}
use Rattle.fillcsv_rows.specs.Filled.{filled_fields}
use Rattle.fillcsv_blocks.proofs.block.Block.row_fields.Goals as goal

pub returns-clause-made : goal.returns-clause-made
returns-clause-made c = λ g examples records s is answer. (
  c.args.row.now.fields,
  c.args.answer.now,
  is,
  answer,
  c.from_vec.ensures ∙ (c.in_ok-fields.ensures ∙ (λ i. filled_fields c.args.form.now (c.typed_at-text.ensures i) (c.given-cell.ensures g examples s i) c.args.answer.now c.args.row.now.fields)),
)

pub returns-clause-some : goal.returns-clause-some
returns-clause-some c =
    let some = some_filled c.args.form.now (option_copied c.typed_at-text.result) (option_copied c.given-cell.result) c.args.answer.now c.args.row.now.fields c.requires.column c.requires.states in
    subst (λ (l : Fields). 0 < length l) (sym c.from_vec.ensures) (subst (λ (l : Fields). 0 < length l) (sym c.in_ok-fields.ensures) some)
