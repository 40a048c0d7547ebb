-- Fields of records.
use Rattle.std.specs.Prelude.{ℕ, List, [], Option, None, Some, codes, encode_utf8_all}
use Rattle.std.specs.List.{flat_map}
use Rattle.fill_sheet.specs.Report.{record_text}

-- a record: its fields as bytes
abbrev pub Fields : Type 0
Fields = List (List ℕ)

-- the bytes of records
abbrev pub report_text : List Fields → List ℕ
report_text records = flat_map record_text records

-- the text of an answer in UTF-8, empty where there is none
abbrev pub answer_field : Option (List ℕ) → List ℕ
answer_field None = []
answer_field (Some text) = encode_utf8_all text

-- whether there is a text
abbrev pub value_word : Option (List ℕ) → List ℕ
value_word None = codes "none"
value_word (Some text) = codes "some"
