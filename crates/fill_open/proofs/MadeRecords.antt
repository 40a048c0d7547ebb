-- The records of the generated sheet, line by line.
use Rattle.std.proofs.Common.{◌≡◌, ℕ, zero, suc, ◌+◌, ◌%◌, ◌<◌, ◌≤◌, ◌==◌, List, [], ◌∷◌, ◌++◌, false, true, length, map, Some, refl, sym, ap, ◌∙◌, arith, append_assoc, append-nil, length-append}
use Rattle.std.proofs.lemmas.Bool.Decides.{nat_tests}
use Rattle.std.specs.Prelude.{if◌then◌else◌, codes}
use Rattle.std.specs.List.{flat_map, range_with_len, list_any}
use Rattle.csv.specs.Machine.{next_record}
use Rattle.csv.specs.Reading.{default_config, records_from, strip_bom}
use Rattle.csv.specs.Writing.{default_writer, needs_byte, row_text, is_blank, fields_text}
use Rattle.csv.specs.declared.parser.State.TheVariants as st
use Rattle.csv.proofs.RoundTrip.{read-write-many}
use Rattle.fill_records.specs.Records.{records_of}
use Rattle.fill_open.specs.declared.generator.Sign.{Sign}
use Rattle.fill_open.specs.declared.generator.Sign.TheVariants.{Capital, Small, Space}
use Rattle.fill_open.specs.Made.{character, pattern, first_letter, made_cell, made_output, made_line, made_sheet}

-- the fields of a line
abbrev pub made_record : ℕ → List (List ℕ)
made_record line = made_cell line ∷ made_output line ∷ []

-- a letter calls for no quotes
letter_plain : (c : ℕ) → 65 ≤ c → needs_byte default_writer c ≡ false
letter_plain c least = grind (arith, nat_tests)

sign_plain : (first : ℕ) (sign : Sign) → needs_byte default_writer (character first sign) ≡ false
sign_plain first (Capital place) = letter_plain (65 + (first + place) % 26) (omega arith)
sign_plain first (Small place) = letter_plain (97 + (first + place) % 26) (omega arith)
sign_plain first Space = refl

signs_plain : (first : ℕ) (signs : List Sign) → list_any (needs_byte default_writer) (map (character first) signs) ≡ false
signs_plain first [] = refl
signs_plain first (sign ∷ more) = rw (sign_plain first sign) (signs_plain first more)

-- what is true of the three outputs is true of each line's
pub each_output : (P : List ℕ → Type 0) → P (codes "Cd") → P (codes "Ijk") → P [] → (line : ℕ) → P (made_output line)
each_output P first second none line = elim (line == 1) as (λ b. P (if b then codes "Cd" else (if line == 2 then codes "Ijk" else []))) [
  | true ↦ first
  | false ↦ elim (line == 2) as (λ b. P (if b then codes "Ijk" else [])) [ true ↦ second | false ↦ none ]
]

output_plain : (line : ℕ) → list_any (needs_byte default_writer) (made_output line) ≡ false
output_plain = each_output (λ output. list_any (needs_byte default_writer) output ≡ false) refl refl refl

-- two fields that call for no quotes are written as they are
written_plain : (x y : List ℕ) → list_any (needs_byte default_writer) x ≡ false → list_any (needs_byte default_writer) y ≡ false
    → row_text default_writer (x ∷ y ∷ []) ≡ x ++ (44 ∷ (y ++ 10 ∷ []))
unfolding is_blank fields_text
written_plain x y plain_x plain_y = rw (plain_x, plain_y, append-nil y) (append_assoc x (44 ∷ y) (10 ∷ []))

-- a line is what a writer writes of its fields, and so is read as them
line_read : (line : ℕ) (tail : List ℕ) → next_record default_config st.StartRecord [] [] (made_line line ++ tail) ≡ Some (made_record line, st.StartRecord, tail)
line_read line tail =
    ap (λ text. next_record default_config st.StartRecord [] [] (text ++ tail))
    (sym (written_plain (made_cell line) (made_output line) (signs_plain (first_letter line) (pattern line)) (output_plain line)))
    ∙ read-write-many (made_cell line) (made_output line) [] tail

lines_read : (n a reads : ℕ) → n < reads
    → records_from default_config reads st.StartRecord (flat_map made_line (range_with_len a n)) ≡ map made_record (range_with_len a n)
unfolding records_from next_record
lines_read n a zero more = absurd (omega (arith, more))
lines_read zero a (suc reads) more = refl
lines_read (suc n) a (suc reads) more =
    rw (line_read a (flat_map made_line (range_with_len (a + 1) n))) (ap (λ rest. made_record a ∷ rest) (lines_read n (a + 1) reads (omega (arith, more))))

line_has_bytes : (line : ℕ) → 1 ≤ length (made_line line)
line_has_bytes line = let size = length-append (made_cell line) (44 ∷ (made_output line ++ 10 ∷ [])) in omega (arith, size)

lines_have_bytes : (n a : ℕ) → n ≤ length (flat_map made_line (range_with_len a n))
lines_have_bytes zero a = omega arith
lines_have_bytes (suc n) a =
    let size = length-append (made_line a) (flat_map made_line (range_with_len (a + 1) n)) in omega (arith, size, line_has_bytes a, lines_have_bytes n (a + 1))

-- the first byte is a letter's, and no mark's
no_mark : (n : ℕ) → 1 ≤ n → strip_bom (made_sheet n) ≡ made_sheet n
unfolding strip_bom
no_mark zero some = absurd (omega (arith, some))
no_mark (suc n) some = refl

-- each line is read as a record of its two fields
pub records_are : (n : ℕ) → 1 ≤ n → records_of (made_sheet n) ≡ map made_record (range_with_len 1 n)
unfolding records_of
records_are n some = rw (no_mark n some) (lines_read n 1 (length (made_sheet n) + 1) (omega (arith, lines_have_bytes n 1)))
