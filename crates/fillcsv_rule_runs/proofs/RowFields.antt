-- The fields of a record with another field in one column.
use Rattle.std.proofs.Common.{◌≡◌, ◌≢◌, ℕ, zero, suc, ◌-◌, ◌<◌, max, List, [], ◌∷◌, ◌++◌, length, length-append, get_or, replicate, refl, sym, ap, ◌∙◌, arith}
use Rattle.std.specs.Prelude.{slice_get, unwrap_or}
use Rattle.std.proofs.lemmas.List.{get_or-set_same, get_or-set_other, length-replicate}
use Rattle.std.proofs.lemmas.Option.{slice_get-get_or}
use Rattle.std.proofs.Math.ListN.{length-set}
use Rattle.fillcsv_columns.specs.Fields.{padded, with_field}

-- padding changes no field
padded-same : (fields : List (List ℕ)) (count i : ℕ) → get_or (fields ++ replicate count []) i [] ≡ unwrap_or (slice_get fields i) []
padded-same [] zero i = refl
padded-same [] (suc count) zero = refl
padded-same [] (suc count) (suc i) = padded-same [] count i
padded-same (f ∷ more) count zero = refl
padded-same (f ∷ more) count (suc i) = padded-same more count i

length-padded : (column : ℕ) (fields : List (List ℕ)) → length (padded column fields) ≡ max (length fields) column
length-padded column fields =
    let empty : List ℕ = [] in
    let size = length-append fields (replicate (column - length fields) empty) in
    let more : length (replicate (column - length fields) empty) ≡ column - length fields = length-replicate (column - length fields) empty in
    omega (arith, size, more)

pub length-with_field : (column : ℕ) (field : List ℕ) (fields : List (List ℕ)) → length (with_field column field fields) ≡ max (length fields) column
length-with_field column field fields = length-set (padded column fields) (column - 1) field ∙ length-padded column fields

pub field_here : (column : ℕ) (field : List ℕ) (fields : List (List ℕ)) (i : ℕ) → 0 < column → i ≡ column - 1 → field ≡ get_or (with_field column field fields) i []
field_here column field fields i first is =
    let size = length-padded column fields in
    let lt : i < length (padded column fields) = omega (arith, size) in
    rw (← is) (sym (get_or-set_same (padded column fields) i field [] lt))

pub field_there : (column : ℕ) (field : List ℕ) (fields : List (List ℕ)) (i : ℕ) → i ≢ column - 1 → unwrap_or (slice_get fields i) [] ≡ get_or (with_field column field fields) i []
field_there column field fields i other = sym (get_or-set_other (padded column fields) (column - 1) i field [] other ∙ padded-same fields (column - length fields) i)

-- the field at a place of a record
pub field_in : (fields : List (List ℕ)) (i : ℕ) → i < length fields → unwrap_or (slice_get fields i) [] ≡ get_or fields i []
field_in fields i lt = ap (λ o. unwrap_or o []) (slice_get-get_or fields i [] lt)
