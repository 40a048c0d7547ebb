-- The bytes of records, one after the other.
use Rattle.std.proofs.Common.{◌≡◌, ℕ, ◌+◌, List, [], ◌∷◌, ◌++◌, length, take, Option, Some, slice_get, sym, ap, ◌∙◌, refl, subst, arith, append_assoc, append-nil, length-append}
use Rattle.std.specs.Io.KnownBytes.{Appends}
use Rattle.std.proofs.KnownBytes.{Appends-trans}
use Rattle.std.proofs.Math.Seq.{take-append-add}
use Rattle.std.proofs.lemmas.List.{take_more}
use Rattle.std.proofs.lemmas.Option.{slice_get_within, get_or_from_slice_get}
use Rattle.fill_edge.specs.Outside.{AppendsPart}
use Rattle.fill_sheet.specs.Report.{record_text}
use Rattle.fill_output.specs.Fields.{report_text}
use Rattle.fill_output.specs.Fields.{Fields}

pub report_of_one : (fields : Fields) → report_text (fields ∷ []) ≡ record_text fields
report_of_one fields = append-nil (record_text fields)

pub report-append : (xs ys : List Fields) → report_text (xs ++ ys) ≡ report_text xs ++ report_text ys
report-append [] ys = refl
report-append (x ∷ xs) ys = ap (λ (l : List ℕ). record_text x ++ l) (report-append xs ys) ∙ sym (append_assoc (record_text x) (report_text xs) (report_text ys))

pub report_more : (xs : List Fields) (x : Fields) → report_text (xs ++ x ∷ []) ≡ report_text xs ++ record_text x
report_more xs x = report-append xs (x ∷ []) ∙ ap (λ (l : List ℕ). report_text xs ++ l) (report_of_one x)

pub appends_part_after : (a b c : Option (List ℕ)) (before line : List ℕ) → Appends a b before → AppendsPart b c line → AppendsPart a c (before ++ line)
appends_part_after a b c before line p q =
    let cut : take (length before + q.0) (before ++ line) ≡ before ++ take q.0 line = take-append-add before line q.0 in
    (length before + q.0, omega (arith, q.1, length-append before line), rw cut (Appends-trans a b c before (take q.0 line) p q.2))

-- records, and then others
pub appends_then : (a b c : Option (List ℕ)) (xs ys : List Fields) → Appends a b (report_text xs) → Appends b c (report_text ys) → Appends a c (report_text (xs ++ ys))
appends_then a b c xs ys p q = subst (λ (l : List ℕ). Appends a c l) (sym (report-append xs ys)) (Appends-trans a b c (report_text xs) (report_text ys) p q)

pub part_then : (a b c : Option (List ℕ)) (xs ys : List Fields) → Appends a b (report_text xs) → AppendsPart b c (report_text ys) → AppendsPart a c (report_text (xs ++ ys))
part_then a b c xs ys p q = subst (λ (l : List ℕ). AppendsPart a c l) (sym (report-append xs ys)) (appends_part_after a b c (report_text xs) (report_text ys) p q)

-- records, and then one more
pub appends_more : (a b c : Option (List ℕ)) (xs : List Fields) (x : Fields) → Appends a b (report_text xs) → Appends b c (record_text x) → Appends a c (report_text (xs ++ x ∷ []))
appends_more a b c xs x p q = subst (λ (l : List ℕ). Appends a c l) (sym (report_more xs x)) (Appends-trans a b c (report_text xs) (record_text x) p q)

pub part_more : (a b c : Option (List ℕ)) (xs : List Fields) (x : Fields) → Appends a b (report_text xs) → AppendsPart b c (record_text x) → AppendsPart a c (report_text (xs ++ x ∷ []))
part_more a b c xs x p q = subst (λ (l : List ℕ). AppendsPart a c l) (sym (report_more xs x)) (appends_part_after a b c (report_text xs) (record_text x) p q)

-- one record alone
pub appends_one : (a b : Option (List ℕ)) (x : Fields) → Appends a b (record_text x) → Appends a b (report_text (x ∷ []))
appends_one a b x p = subst (λ (l : List ℕ). Appends a b l) (sym (report_of_one x)) p

pub part_one : (a b : Option (List ℕ)) (x : Fields) → AppendsPart a b (record_text x) → AppendsPart a b (report_text (x ∷ []))
part_one a b x p = subst (λ (l : List ℕ). AppendsPart a b l) (sym (report_of_one x)) p

-- the records up to the next one
pub take_next : (xs : List Fields) (i : ℕ) (x : Fields) → slice_get xs i ≡ Some x → take (i + 1) xs ≡ take i xs ++ x ∷ []
take_next xs i x there =
    take_more xs i x (slice_get_within xs i x there) ∙ ap (λ (y : Fields). take i xs ++ y ∷ []) (get_or_from_slice_get xs i x x there)
