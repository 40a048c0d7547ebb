use Rattle.std.proofs.Common.{◌∙◌, ap, sym}
use Rattle.std.specs.Prelude.{option_to_list}
use Rattle.fill_records.specs.Texts.{bad_column}
use Rattle.fillcsv_filling.proofs.Readable.{none_is, not_some, reads_text}
use Rattle.fillcsv_filling.proofs.reading.is_readable.Goals as goal

pub returns-in-Some : goal.returns-in-Some
returns-in-Some c = λ yes.
    let s = c.args.sheet.now in
    let none = sym c.bad_column.ensures ∙ not_some c.bad_column.result c.is_some.result c.is_some.ensures c.if-is_some.false in
    let here = sym c.bad_column-in-Some.ensures ∙ none_is c.bad_column-in-Some.result c.is_none.result c.is_none.ensures yes in
    reads_text s.inputs.now s.output c.args.fields.now none (ap (λ o. bad_column (option_to_list o) c.args.fields.now) c.in-Some.is ∙ here)

pub returns-in-None : goal.returns-in-None
returns-in-None c = λ yes.
    let s = c.args.sheet.now in
    let none = sym c.bad_column.ensures ∙ not_some c.bad_column.result c.is_some.result c.is_some.ensures c.if-is_some.false in
    reads_text s.inputs.now s.output c.args.fields.now none (ap (λ o. bad_column (option_to_list o) c.args.fields.now) c.in-None.is)
