use Rattle.fill_records.proofs.Texts.{text_not_refused}
use Rattle.fill_script.proofs.Lines.{field_is_text}
use Rattle.fill_script.proofs.line.name_in.Goals as goal

pub unreachable-requires : goal.unreachable-requires
unreachable-requires c =
    let refused = rw (c.in-Err-NotUtf8.field-0-is, c.field-field.ensures) at c.in-Err-NotUtf8.ensures.err in
    text_not_refused _ _ (field_is_text c.args.line.now c.args.column c.requires.text) refused
