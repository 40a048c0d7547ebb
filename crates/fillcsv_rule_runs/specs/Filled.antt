-- What a rule makes of the records of a stream.
use Rattle.std.specs.Prelude.{◌≡◌, ℕ, List, [], ◌∷◌, map, Option, None, Some}
use Rattle.std.specs.List.{AllZip}
use Rattle.fill_records.specs.Records.{field_of}
use Rattle.fill_records.specs.Texts.{IsText, text_in}
use Rattle.fill_sheet.specs.Report.{record_text}
use Rattle.fill_sheet.specs.Sheet.{row_sheet}
use Rattle.fill_tree.specs.Guard.{SwitchIs}
use Rattle.fill_tree.specs.Value.{IsValue}
use Rattle.fill_output.specs.Fields.{answer_field}
use Rattle.fillcsv_columns.specs.Fields.{with_field}
use Rattle.fillcsv_rules.specs.declared.rule.Names.{Names}
use Rattle.fillcsv_rule_runs.specs.Loaded.{LoadedData}
use Rattle.fillcsv_rule_runs.specs.Places.{PlacesData}

-- this is the value of the rule's program on a record: by its tables and on the sheet of this one row, whose cells are the
-- texts of the record's fields
abbrev pub ValueIs : LoadedData → List ℕ → List (List ℕ) → Option (List ℕ) → Type 0
ValueIs r sources fields value = IsValue (SwitchIs (row_sheet r.rule.inputs (map (text_in fields) sources)) r.tables 1 r.rule.switch) value

-- the bytes of the value, none where there is no value
abbrev pub GivesValue : LoadedData → List ℕ → List (List ℕ) → List ℕ → Type 0
GivesValue r sources fields bytes = (value : Option (List ℕ)) × ValueIs r sources fields value × (bytes ≡ answer_field value)

-- the field that a record gets in the column that is filled: the one that it has, or else the value, empty where there is none
abbrev pub CellIs : LoadedData → List ℕ → List (List ℕ) → List ℕ → List ℕ → Type 0
CellIs r sources fields [] cell = GivesValue r sources fields cell
CellIs r sources fields (c ∷ more) cell = cell ≡ c ∷ more

-- the record is made of another one, whose fields that are read are text: it has this field, and each other one as it was
abbrev pub IsFilled : LoadedData → PlacesData → List (List ℕ) → List (List ℕ) → Type 0
IsFilled r places fields made = (cell : List ℕ) × IsText places.sources fields
    × CellIs r places.sources fields (field_of places.target fields) cell × (made ≡ with_field places.target cell fields)

-- the header, with the name of the column that is filled
abbrev pub named_head : Names → PlacesData → List (List ℕ) → List (List ℕ)
named_head names places header = with_field places.target names.output header

-- the records are made of these: of each one, but of the first the header, where the rule has names
abbrev pub AreMade : LoadedData → PlacesData → Option Names → List (List (List ℕ)) → List (List (List ℕ)) → Type 0
AreMade r places None rows made = AllZip (IsFilled r places) rows made
AreMade r places (Some names) [] made = made ≡ []
AreMade r places (Some names) (header ∷ rows) [] = ⊥
AreMade r places (Some names) (header ∷ rows) (first ∷ made) = (first ≡ named_head names places header) × AllZip (IsFilled r places) rows made

-- the text is that of a record which is made of this one
abbrev pub MakesText : LoadedData → PlacesData → List (List ℕ) → List ℕ → Type 0
MakesText r places fields text = (made : List (List ℕ)) × IsFilled r places fields made × (text ≡ record_text made)
