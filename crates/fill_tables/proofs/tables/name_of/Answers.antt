use Rattle.std.proofs.lemmas.Str.{is_utf8-from_IsUtf8}
use Rattle.fill_records.proofs.Texts.{text_not_refused}
use Rattle.fill_tables.proofs.tables.name_of.Goals as goal

pub unreachable-requires : goal.unreachable-requires
unreachable-requires c =
    let refused = rw c.in-Err-NotUtf8.field-0-is at c.in-Err-NotUtf8.ensures.err in
    text_not_refused _ _ (is_utf8-from_IsUtf8 _ c.as_bytes.ensures.utf8) refused
