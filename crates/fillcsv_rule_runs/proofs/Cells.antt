-- What a record is made of.
use Rattle.std.proofs.Common.{◌≡◌, ◌==◌, ℕ, ◌<◌, List, [], ◌∷◌, ◌++◌, length, true, false, None, Result, Ok, Err, IfOk, refl, sym, ap, subst, arith}
use Rattle.std.proofs.lemmas.Bool.Decides.{nat_tests}
use Rattle.std.proofs.lemmas.List.Elements.{All-head}
use Rattle.std.specs.Prelude.{Option, unwrap_or}
use Rattle.fill_text.specs.Data.{TableData}
use Rattle.fill_records.specs.Records.{field_of}
use Rattle.fill_records.specs.Texts.{IsText, bad_column, or_later}
use Rattle.fill_records.proofs.Texts.{texts_from_no_bad}
use Rattle.fill_tree.specs.Guard.{SwitchIs}
use Rattle.fill_tree.specs.Switch.{SwitchTree}
use Rattle.fill_tree.specs.Value.{IsValue}
use Rattle.fill_output.specs.Fields.{answer_field}
use Rattle.fill_sheet.specs.Report.{record_text}
use Rattle.fill_sheet.specs.Sheet.{row_sheet}
use Rattle.fillcsv_columns.specs.Fields.{with_field}
use Rattle.fill_stream.specs.Filters.{Puts}
use Rattle.fillcsv_rule_runs.specs.Filled.{CellIs, GivesValue, ValueIs}
use Rattle.fillcsv_rule_runs.specs.Loaded.{LoadedData, loaded_data}
use Rattle.fillcsv_rule_runs.specs.Placed.{Makes}
use Rattle.fillcsv_rule_runs.specs.declared.rows.PlacedRule.{PlacedRule}

-- a field that is not empty stays
cell_kept : (r : LoadedData) (sources : List ℕ) (fields : List (List ℕ)) (field : List ℕ) → (length field == 0) ≡ false → CellIs r sources fields field field
cell_kept r sources fields [] some = cc
cell_kept r sources fields (c ∷ more) some = refl

pub made_kept : (p : PlacedRule) (fields : List (List ℕ)) (field old new : List ℕ) → IsText p.places.sources.items fields → field ≡ field_of p.places.target fields → (length field == 0) ≡ false
    → new ≡ old ++ record_text (with_field p.places.target field fields) → Puts (Makes p fields) old new
made_kept p fields field old new text is some put =
    let made = with_field p.places.target field fields in
    (record_text made, (made, (field, text, subst (λ (f : List ℕ). CellIs (loaded_data p.loaded.now) p.places.sources.items fields f field) is (cell_kept (loaded_data p.loaded.now) p.places.sources.items fields field some), refl), refl), put)

-- an empty one is filled
pub made_value : (p : PlacedRule) (fields : List (List ℕ)) (value old new : List ℕ) → IsText p.places.sources.items fields → field_of p.places.target fields ≡ [] → GivesValue (loaded_data p.loaded.now) p.places.sources.items fields value
    → new ≡ old ++ record_text (with_field p.places.target value fields) → Puts (Makes p fields) old new
made_value p fields value old new text empty gives put =
    let made = with_field p.places.target value fields in
    (record_text made, (made, (value, text, subst (λ (f : List ℕ). CellIs (loaded_data p.loaded.now) p.places.sources.items fields f value) (sym empty) gives, refl), refl), put)

pub no_field : (field : List ℕ) → (length field == 0) ≡ true → field ≡ []
no_field [] is = refl
no_field (c ∷ more) is = let some : 0 < length (c ∷ more) = omega arith in absurd (grind (arith, nat_tests))

-- where no column is bad, each field is text
pub no_bad : (columns : List ℕ) (fields : List (List ℕ)) → bad_column columns fields ≡ None → IsText columns fields
no_bad columns fields none =
    All-head (IsText columns) fields [] (texts_from_no_bad columns 1 (fields ∷ []) (ap (λ (b : Option ℕ). or_later 1 b None) none))

-- a value by equal inputs and cells
pub value_by : (s : SwitchTree) (tables : List TableData) (inputs inputs2 : List ℕ) (cells cells2 : List (List ℕ)) (value : Option (List ℕ)) → inputs2 ≡ inputs → cells2 ≡ cells
    → IsValue (SwitchIs (row_sheet inputs2 cells2) tables 1 s) value → IsValue (SwitchIs (row_sheet inputs cells) tables 1 s) value
value_by s tables inputs inputs2 cells cells2 value same alike is =
    subst (λ (l : List ℕ). IsValue (SwitchIs (row_sheet l cells) tables 1 s) value) same (subst (λ (l : List (List ℕ)). IsValue (SwitchIs (row_sheet inputs2 l) tables 1 s) value) alike is)

-- the bytes of a value are given
pub gives : {E : Type 0} (r : LoadedData) (sources : List ℕ) (fields : List (List ℕ)) (value : Option (List ℕ)) (result : Result (Option (List ℕ)) E) → ValueIs r sources fields value
    → IfOk result (λ bytes. unwrap_or bytes [] ≡ answer_field value) → IfOk result (λ bytes. GivesValue r sources fields (unwrap_or bytes []))
gives r sources fields value (Ok bytes) is made = (value, is, made)
gives r sources fields value (Err e) is made = tt
