use Rattle.fill_records.proofs.Texts.{text_not_refused}
use Rattle.fillcsv_rule_runs.proofs.fields.text.Goals as goal

pub unreachable-requires : goal.unreachable-requires
unreachable-requires c =
    let refused = rw (c.in-Err-NotUtf8.field-0-is, c.field.ensures) at c.in-Err-NotUtf8.ensures.err in
    text_not_refused _ _ c.requires.text refused
