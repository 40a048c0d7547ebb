-- Which fields are UTF-8.
use Rattle.std.proofs.Common.{◌≡◌, ℕ, zero, suc, ◌+◌, ◌≤◌, List, [], ◌∷◌, true, false, not, length, slice_get, drop, All, IsTrue, None, Some, if◌then◌else◌, refl, add-one, arith}
use Rattle.std.proofs.Math.Seq.{take-length}
use Rattle.std.specs.List.{list_all}
use Rattle.std.specs.Str.{is_utf8, IsValidUpTo}
use Rattle.std.proofs.lemmas.Str.{IsUtf8-from_is_utf8}
use Rattle.std.proofs.lemmas.List.{drop_all}
use Rattle.std.proofs.lemmas.List.Elements.{All-cons, All-nil}
use Rattle.fill_records.specs.Records.{field_of}
use Rattle.fill_records.specs.Texts.{IsText, bad_column, first_bad, or_later}

-- text is not refused
pub text_not_refused : (bytes : List ℕ) (at : ℕ) → IsTrue (is_utf8 bytes) → IsValidUpTo bytes at → ⊥
text_not_refused bytes at text refused = refused.longest (length bytes) refused.short (rw (take-length bytes) (IsUtf8-from_is_utf8 bytes text))

-- where no column is bad, each field is text
text_from_no_bad : (columns : List ℕ) (fields : List (List ℕ)) → bad_column columns fields ≡ None → IsText columns fields
text_from_no_bad [] fields none = All-nil (λ column. IsTrue (is_utf8 (field_of column fields)))
text_from_no_bad (c ∷ more) fields none =
    elim (is_utf8 (field_of c fields)) as (λ b. is_utf8 (field_of c fields) ≡ b → (if not b then Some c else bad_column more fields) ≡ None → IsText (c ∷ more) fields) [
      | true ↦ λ is none. All-cons (λ column. IsTrue (is_utf8 (field_of column fields))) c more is (text_from_no_bad more fields none)
      | false ↦ λ is none. cc
    ] refl none

-- where no record has a bad column, each is text
pub texts_from_no_bad : (columns : List ℕ) (number : ℕ) (records : List (List (List ℕ))) → first_bad columns number records ≡ None → All (IsText columns) records
texts_from_no_bad columns number [] none = All-nil (IsText columns)
texts_from_no_bad columns number (fields ∷ more) none =
    elim (bad_column columns fields) as (λ bad. bad_column columns fields ≡ bad → or_later number bad (first_bad columns (number + 1) more) ≡ None → All (IsText columns) (fields ∷ more)) [
      | None ↦ λ is none. All-cons (IsText columns) fields more (text_from_no_bad columns fields is) (texts_from_no_bad columns (number + 1) more none)
      | Some column ↦ λ is none. cc
    ] refl none

-- whether the fields from a place on are UTF-8, where the one there is not, or is, or none is there
pub all_here : (fields : List (List ℕ)) (i : ℕ) (field : List ℕ) → slice_get fields i ≡ Some field → is_utf8 field ≡ false → list_all is_utf8 (drop i fields) ≡ false
all_here [] i field there is = cc
all_here (f ∷ more) zero field there is = let same : f ≡ field = cc in rw (same, is) refl
all_here (f ∷ more) (suc i) field there is = all_here more i field there is

pub all_next : (fields : List (List ℕ)) (i : ℕ) (field : List ℕ) → slice_get fields i ≡ Some field → is_utf8 field ≡ true → list_all is_utf8 (drop i fields) ≡ list_all is_utf8 (drop (i + 1) fields)
all_next [] i field there is = cc
all_next (f ∷ more) zero field there is = let same : f ≡ field = cc in rw (same, is) refl
all_next (f ∷ more) (suc i) field there is = rw add-one (rw add-one at (all_next more i field there is))

pub all_past : (fields : List (List ℕ)) (i : ℕ) → length fields ≤ i → list_all is_utf8 (drop i fields) ≡ list_all is_utf8 (drop (i + 1) fields)
all_past fields i past = rw (drop_all i fields past, drop_all (i + 1) fields (omega arith)) refl

pub none_past : (fields : List (List ℕ)) (i : ℕ) → slice_get fields i ≡ None → length fields ≤ i
none_past [] i none = omega arith
none_past (f ∷ more) zero none = cc
none_past (f ∷ more) (suc i) none = let rest = none_past more i none in omega arith
