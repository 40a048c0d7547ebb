use Rattle.std.proofs.Common.{◌≡◌, ◌∙◌, ℕ, List, ◌++◌, ap, subst}
use Rattle.std.specs.Prelude.{◌∷◌, []}
use Rattle.std.specs.Io.KnownBytes.{Appends}
use Rattle.std.proofs.lemmas.List.Elements.{All-head}
use Rattle.fill_edge.specs.Outside.{AppendsPart}
use Rattle.fill_sheet.specs.Report.{record_text}
use Rattle.fillcsv_filling.specs.Long.{long_of, rows_of}
use Rattle.fillcsv_filling.specs.Rows.{IsRow}
use Rattle.fillcsv_filling.specs.Taught.{examples_of, ground_with}
use Rattle.fillcsv_filling.proofs.Rowwise.{short_row}
use Rattle.fillcsv_filling.proofs.writing.write_row.Goals as goal

pub returns-in_err-answer-clause-writes : goal.returns-in_err-answer-clause-writes
returns-in_err-answer-clause-writes g c = λ bytes stands.
    short_row (long_of bytes c.args.sheet.now) c.args.block.now c.args.row.now.number (g.O.Sink.written c.args.out.now) c.from_residual.result c.from_residual.ensures.1

pub returns-in_err-fields-clause-writes : goal.returns-in_err-fields-clause-writes
returns-in_err-fields-clause-writes g c = λ bytes stands.
    short_row (long_of bytes c.args.sheet.now) c.args.block.now c.args.row.now.number (g.O.Sink.written c.args.out.now) c.from_residual-in_err-fields.result c.from_residual-in_err-fields.ensures.1

pub returns-in_err-put_record-clause-writes : goal.returns-in_err-put_record-clause-writes
returns-in_err-put_record-clause-writes g c = λ bytes stands.
    short_row (long_of bytes c.args.sheet.now) c.args.block.now c.args.row.now.number (g.O.Sink.written c.args.out.now) c.from_residual-in_err-put_record.result c.from_residual-in_err-put_record.ensures.1

pub returns-in-Ok-clause-writes : goal.returns-in-Ok-clause-writes
returns-in-Ok-clause-writes g c = λ bytes stands.
    let s = long_of bytes c.args.sheet.now in
    let over = ground_with s c.args.block.now in
    let examples = examples_of c.args.block.now in
    let answer = c.in_ok-answer.ensures.answer over examples stands.stands in
    let row = All-head (IsRow s) c.args.row.now [] stands.rows in
    let line : c.as_slice.result.now ≡ record_text c.in_ok-fields.fields =
    c.as_slice.ensures ∙ c.in_ok-put_record.ensures.ok ∙ ap (λ (l : List ℕ). l ++ record_text c.in_ok-fields.fields) c.new-line.ensures
    in (
      c.row_state.ensures over examples stands.stands answer,
      c.in_ok-fields.fields,
      c.in_ok-fields.ensures.made over examples (rows_of s) stands.stands row answer,
      subst (λ (l : List ℕ). Appends (g.O.Sink.written c.args.out.now) (g.O.Sink.written c.write_all.new.sink) l) line c.in-Ok.ensures.whole,
    )

pub returns-clause-writes : goal.returns-clause-writes
returns-clause-writes g c = λ bytes stands.
    let s = long_of bytes c.args.sheet.now in
    let over = ground_with s c.args.block.now in
    let examples = examples_of c.args.block.now in
    let answer = c.in_ok-answer.ensures.answer over examples stands.stands in
    let row = All-head (IsRow s) c.args.row.now [] stands.rows in
    let line : c.as_slice.result.now ≡ record_text c.in_ok-fields.fields =
    c.as_slice.ensures ∙ c.in_ok-put_record.ensures.ok ∙ ap (λ (l : List ℕ). l ++ record_text c.in_ok-fields.fields) c.new-line.ensures
    in (
      c.in_ok-fields.fields,
      c.in_ok-fields.ensures.made over examples (rows_of s) stands.stands row answer,
      subst (λ (l : List ℕ). AppendsPart (g.O.Sink.written c.args.out.now) (g.O.Sink.written c.write_all.new.sink) l) line c.in-Err.ensures.part,
    )
