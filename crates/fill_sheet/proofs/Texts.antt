-- The text of a record, field by field.
use Rattle.std.proofs.Common.{◌≡◌, ◌==◌, ℕ, ◌+◌, ◌<◌, ◌≤◌, List, [], ◌∷◌, ◌++◌, length, length-append, take, get_or, refl, sym, ap, ◌∙◌, arith, append_assoc, append-nil}
use Rattle.std.specs.Prelude.{if◌then◌else◌}
use Rattle.std.proofs.lemmas.List.{take_all}
use Rattle.std.proofs.lemmas.Bool.Decides.{nat_tests}
use Rattle.csv.specs.Writing.{default_writer, escaped, field_text, fields_text, is_blank, next_sep, quoted, row_body}
use Rattle.csv.proofs.WriteFacts.{quoted-step, row-step}
use Rattle.fill_sheet.specs.Report.{record_text}

-- one field more is put
pub row_more : (rows : List (List ℕ)) (i : ℕ) (field text mid new : List ℕ) → i < length rows → field ≡ get_or rows i [] → text ≡ row_body default_writer (take i rows)
    → mid ≡ text ++ next_sep default_writer i → new ≡ mid ++ field_text default_writer field → new ≡ row_body default_writer (take (i + 1) rows)
row_more rows i field text mid new lt is here sep put =
    put ∙ ap (λ (m : List ℕ). m ++ field_text default_writer field) (sep ∙ ap (λ (t : List ℕ). t ++ next_sep default_writer i) here)
    ∙ append_assoc (row_body default_writer (take i rows)) (next_sep default_writer i) (field_text default_writer field)
    ∙ ap (λ (f : List ℕ). row_body default_writer (take i rows) ++ (next_sep default_writer i ++ field_text default_writer f)) is
    ∙ sym (row-step default_writer rows i lt)

-- no byte is put yet
pub quoted_start : (field old : List ℕ) → old ++ 34 ∷ [] ≡ old ++ 34 ∷ escaped default_writer (take 0 field)
unfolding escaped
quoted_start field old = refl

-- one byte more is put between quotes
pub quoted_more : (field old text new : List ℕ) (i : ℕ) → i < length field → text ≡ old ++ 34 ∷ escaped default_writer (take i field)
    → new ≡ text ++ escaped default_writer (get_or field i 0 ∷ []) → new ≡ old ++ 34 ∷ escaped default_writer (take (i + 1) field)
quoted_more field old text new i lt here put =
    put ∙ ap (λ (t : List ℕ). t ++ escaped default_writer (get_or field i 0 ∷ [])) here
    ∙ append_assoc old (34 ∷ escaped default_writer (take i field)) (escaped default_writer (get_or field i 0 ∷ []))
    ∙ ap (λ (t : List ℕ). old ++ t) (quoted-step default_writer 34 field i lt)

-- all bytes are
pub quoted_whole : (field old text new : List ℕ) (i : ℕ) → length field ≤ i → text ≡ old ++ 34 ∷ escaped default_writer (take i field) → new ≡ text ++ 34 ∷ [] → new ≡ old ++ quoted default_writer field
quoted_whole field old text new i past here put =
    put ∙ ap (λ (t : List ℕ). t ++ 34 ∷ []) (here ∙ ap (λ (l : List ℕ). old ++ 34 ∷ escaped default_writer l) (take_all i field past))
    ∙ append_assoc old (34 ∷ escaped default_writer field) (34 ∷ [])

-- a record shows no byte exactly where its text has none yet
blank_of : (rows : List (List ℕ)) → is_blank default_writer rows ≡ (length (row_body default_writer rows) == 0)
unfolding is_blank fields_text
blank_of [] = refl
blank_of (f ∷ []) = ap (λ (t : List ℕ). length t == 0) (sym (append-nil (field_text default_writer f)))
blank_of (f ∷ g ∷ more) =
    let size = length-append (field_text default_writer f) (fields_text default_writer (g ∷ more)) in
    let some : 0 < length (fields_text default_writer (g ∷ more)) = omega arith in
    let all : 0 < length (row_body default_writer (f ∷ g ∷ more)) = omega (arith, size, some) in
    grind (arith, nat_tests)

-- the text is whole at its end
pub row_whole : (rows : List (List ℕ)) (i : ℕ) (text new : List ℕ) → length rows ≤ i → text ≡ row_body default_writer (take i rows)
    → new ≡ text ++ ((if length text == 0 then 34 ∷ 34 ∷ [] else []) ++ 10 ∷ []) → new ≡ record_text rows
unfolding record_text
row_whole rows i text new past here put =
    let all : text ≡ row_body default_writer rows = here ∙ ap (row_body default_writer) (take_all i rows past) in
    put ∙ ap (λ (t : List ℕ). t ++ ((if length t == 0 then 34 ∷ 34 ∷ [] else []) ++ 10 ∷ [])) all
    ∙ ap (λ b. row_body default_writer rows ++ ((if b then 34 ∷ 34 ∷ [] else []) ++ 10 ∷ [])) (sym (blank_of rows))
