-- The last record that shows a conditional program, record by record.
use Rattle.std.proofs.Common.{◌≡◌, ℕ, List, [], ◌∷◌, ◌++◌, reverse, Bool, true, false, ap, refl, ◌∙◌}
use Rattle.std.specs.Prelude.{if◌then◌else◌}
use Rattle.std.proofs.lemmas.List.{reverse-append}
use Rattle.std.specs.List.{find}
use Rattle.fill_records.specs.Records.{field_of}
use Rattle.fill_apply.specs.Saved.{is_shown, shown_text, text_of}

pub shown_push : (records : List (List (List ℕ))) (fields : List (List ℕ)) → shown_text (records ++ fields ∷ []) ≡ (if is_shown fields then field_of 2 fields else shown_text records)
shown_push records fields =
    ap (λ l. text_of (find is_shown l)) (reverse-append records (fields ∷ [])) ∙ first (is_shown fields) refl
  where
    first : (b : Bool) → is_shown fields ≡ b → text_of (find is_shown (fields ∷ reverse records)) ≡ (if b then field_of 2 fields else shown_text records)
    first true is = rw is refl
    first false is = rw is refl
