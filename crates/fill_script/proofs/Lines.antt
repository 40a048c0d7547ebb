-- Fields of a line: texts.
use Rattle.std.proofs.Common.{◌≡◌, ℕ, zero, suc, ◌-◌, List, [], ◌∷◌, slice_get, true, IsTrue, refl}
use Rattle.std.specs.Prelude.{unwrap_or}
use Rattle.std.specs.List.{list_all}
use Rattle.std.specs.Str.{is_utf8}
use Rattle.std.proofs.lemmas.Bool.{and_parts}
use Rattle.std.proofs.lemmas.Str.{is_utf8-from_IsUtf8}
use Rattle.fill_records.specs.Records.{field_of}
use Rattle.fill_script.specs.Line.{is_text}

field_at : (fields : List (List ℕ)) (i : ℕ) → list_all is_utf8 fields ≡ true → is_utf8 (unwrap_or (slice_get fields i) []) ≡ true
field_at [] i all = is_utf8-from_IsUtf8 [] ([], (refl, refl))
field_at (f ∷ more) zero all = (and_parts (is_utf8 f) (list_all is_utf8 more) all).0
field_at (f ∷ more) (suc i) all = field_at more i (and_parts (is_utf8 f) (list_all is_utf8 more) all).1

-- each field of a line that is text is, also one that the line lacks
pub field_is_text : (line : List (List ℕ)) (column : ℕ) → IsTrue (is_text line) → IsTrue (is_utf8 (field_of column line))
field_is_text line column all = field_at line (column - 1) all
