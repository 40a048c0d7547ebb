-- What a conditional program gives on the rows of a sheet, as records.
use Rattle.std.specs.Prelude.{◌≡◌, ℕ, List, [], ◌∷◌, Option, codes}
use Rattle.std.specs.Fmt.{decimal}
use Rattle.std.specs.List.{AllZip, range_with_len}
use Rattle.fill_text.specs.Data.{SheetData, TableData}
use Rattle.fill_output.specs.Fields.{Fields, answer_field, value_word}
use Rattle.fill_tree.specs.Guard.{SwitchIs}
use Rattle.fill_tree.specs.Switch.{SwitchTree}
use Rattle.fill_tree.specs.Value.{IsValue}

-- the record of a row with this value
abbrev pub applied_record : ℕ → Option (List ℕ) → Fields
applied_record row value = codes "applied" ∷ decimal row ∷ answer_field value ∷ value_word value ∷ []

-- the record is that of the value that the conditional program has on the row
abbrev pub IsAppliedRecord : SheetData → List TableData → SwitchTree → ℕ → Fields → Type 0
IsAppliedRecord sheet tables s row fields = (value : Option (List ℕ)) × IsValue (SwitchIs sheet tables row s) value × (fields ≡ applied_record row value)

-- the records of the first n rows, in order
abbrev pub AreAppliedRecords : SheetData → List TableData → SwitchTree → ℕ → List Fields → Type 0
AreAppliedRecords sheet tables s n records = AllZip (IsAppliedRecord sheet tables s) (range_with_len 1 n) records
