-- The generated session opens.
use Rattle.std.proofs.Common.{◌≡◌, ℕ, zero, suc, ◌+◌, ◌<◌, ◌≤◌, List, [], ◌∷◌, false, true, length, map, Option, None, Some, Ok, refl, ap, ◌∙◌, arith}
use Rattle.std.proofs.lemmas.Bool.Decides.{nat_tests}
use Rattle.std.proofs.lemmas.List.{take_all, length-map}
use Rattle.std.proofs.lemmas.List.FromFn.{length-range_with_len}
use Rattle.std.proofs.lemmas.Str.{IsUtf8-from_ascii, is_utf8-from_IsUtf8, chars-IsAscii}
use Rattle.std.specs.Prelude.{◌==◌, ◌&&◌, ◌||◌, Bool, nat_le, nat_lt, if◌then◌else◌, codes, option_map, option_and_then}
use Rattle.std.specs.List.{range_with_len}
use Rattle.std.specs.Fmt.{digits}
use Rattle.std.specs.Str.{IsAscii, bytes_eq, is_utf8, chars}
use Rattle.csv.proofs.OnLiterals.{csv_on_literals}
use Rattle.fill_records.specs.Records.{records_of}
use Rattle.fill_records.specs.Texts.{first_bad}
use Rattle.fill_sheet.specs.Sheet.{read_sheet, read_up_to, row_of, row_records, sheet_of}
use Rattle.fill_numbers.specs.Columns.{between}
use Rattle.fill_numbers.specs.Number.{number_in}
use Rattle.fill_script.specs.Script.{read_script}
use Rattle.fill_open.specs.Apply.{Names, named}
use Rattle.fill_open.specs.Command.{apply, command_in, keys, made, made_of, replay, with_name}
use Rattle.fill_open.specs.Made.{character, pattern, first_letter, made_cell, made_output, made_session, made_sheet}
use Rattle.fill_open.specs.MadeReady.{made_row, made_rows, made_script, made_ready}
use Rattle.fill_opening.specs.Opened.{Passed}
use Rattle.fill_open.specs.Steps.{made_opens}
use Rattle.fill_open.specs.declared.generator.Sign.{Sign}
use Rattle.fill_open.specs.declared.generator.Sign.TheVariants.{Capital, Small, Space}
use Rattle.fill_open.proofs.MadeRecords.{each_output, made_record, records_are}

-- all characters are ASCII
sign_ascii : (first : ℕ) (sign : Sign) → character first sign < 128
sign_ascii first (Capital place) = omega arith
sign_ascii first (Small place) = omega arith
sign_ascii first Space = omega arith

signs_ascii : (first : ℕ) (signs : List Sign) → IsAscii (map (character first) signs)
signs_ascii first [] i = omega arith
signs_ascii first (sign ∷ more) zero = sign_ascii first sign
signs_ascii first (sign ∷ more) (suc i) = signs_ascii first more i

cell_ascii : (line : ℕ) → IsAscii (made_cell line)
cell_ascii line = signs_ascii (first_letter line) (pattern line)

cell_utf8 : (line : ℕ) → is_utf8 (made_cell line) ≡ true
cell_utf8 line = is_utf8-from_IsUtf8 (made_cell line) (IsUtf8-from_ascii (made_cell line) (cell_ascii line))

output_utf8 : (line : ℕ) → is_utf8 (made_output line) ≡ true
unfolding is_utf8 chars lib.Utf8.encode
output_utf8 = each_output (λ output. is_utf8 output ≡ true) refl refl refl

output_text : (line : ℕ) → chars (made_output line) ≡ made_output line
unfolding chars
output_text = each_output (λ output. chars output ≡ output) refl refl refl

-- so no field is refused
none_bad : (lines : List ℕ) (number : ℕ) → first_bad (1 ∷ 2 ∷ []) number (map made_record lines) ≡ None
none_bad [] number = refl
none_bad (line ∷ more) number = rw (cell_utf8 line, output_utf8 line) (none_bad more (number + 1))

-- and each record is the row of its line
row_is : (line : ℕ) → row_of (1 ∷ []) (Some 2) (made_record line) ≡ made_row line
row_is line = rw (chars-IsAscii (made_cell line) (cell_ascii line), output_text line) refl

rows_are : (lines : List ℕ) → map (row_of (1 ∷ []) (Some 2)) (map made_record lines) ≡ map made_row lines
rows_are [] = refl
rows_are (line ∷ more) = rw (row_is line, rows_are more) refl

-- records that are no more than a sheet may have, and none of them bad, are its rows
all_are_rows : (records : List (List (List ℕ))) → length records ≤ 20000 → first_bad (1 ∷ 2 ∷ []) 1 records ≡ None
    → sheet_of 20000 false (1 ∷ []) (Some 2) records ≡ Ok (record { inputs = 1 ∷ []; rows = map (row_of (1 ∷ []) (Some 2)) records })
all_are_rows records few none =
    let all : row_records 20000 false records ≡ records = take_all 20000 records few in
    let fits : nat_lt 20000 (length records) ≡ false = grind (arith, nat_tests) in
    rw (all, fits, none) refl

sheet_reads : (n : ℕ) → 1 ≤ n → n ≤ 2000 → read_sheet false (1 ∷ []) (Some 2) (made_sheet n) ≡ Ok (made_rows n)
unfolding read_up_to
sheet_reads n some few =
    let lines = range_with_len 1 n in
    let size : length (map made_record lines) ≡ n = length-map lines made_record ∙ length-range_with_len 1 n in
    rw (records_are n some)
    (all_are_rows (map made_record lines) (omega (arith, size, few)) (none_bad lines 1)
    ∙ ap (λ rows. Ok (record { inputs = 1 ∷ []; rows = rows })) (rows_are lines))

script_reads : read_script made_session ≡ Ok made_script
unfolding csv_on_literals records_of read_script is_utf8 chars lib.Utf8.encode digits
script_reads = refl

-- the generated session opens, and is this one
pub made_opens_ready : (n : ℕ) → 1 ≤ n → n ≤ 2000 → (made_opens n).outcome ≡ Passed (made_ready n)
made_opens_ready n some few = rw (script_reads, sheet_reads n some few) refl

-- a generated session's number of lines is in its range
in_range : (k n : ℕ) → option_map made (between 1 2000 k) ≡ Some (made n) → (1 ≤ n) × (n ≤ 2000)
in_range k n is =
    elim (nat_le 1 k) as (λ first. nat_le 1 k ≡ first → option_map made (if first && nat_le k 2000 then Some k else None) ≡ Some (made n) → (1 ≤ n) × (n ≤ 2000)) [
      | false ↦ λ _ is. cc
      | true ↦ λ first.
          elim (nat_le k 2000) as (λ last. nat_le k 2000 ≡ last → option_map made (if last then Some k else None) ≡ Some (made n) → (1 ≤ n) × (n ≤ 2000)) [
            | false ↦ λ _ is. cc
            | true ↦ λ last is. let same : k ≡ n = cc in rw (← same) (grind (arith, nat_tests), grind (arith, nat_tests))
          ] refl
    ] refl is

spelled_in_range : (o : Option ℕ) (n : ℕ) → option_map made (option_and_then (between 1 2000) o) ≡ Some (made n) → (1 ≤ n) × (n ≤ 2000)
spelled_in_range None n is = cc
spelled_in_range (Some k) n is = in_range k n is

named_is_not_made : (empty replays lists : Bool) (name : List ℕ) (n : ℕ) →
    (if empty then None else (if replays then Some (replay name) else if lists then Some (keys name) else None)) ≡ Some (made n) → ⊥
named_is_not_made true replays lists name n is = cc
named_is_not_made false true lists name n is = cc
named_is_not_made false false true name n is = cc
named_is_not_made false false false name n is = cc

word_in_range : (makes : Bool) (word argument : List ℕ) (n : ℕ) → (if makes then made_of argument else with_name word argument) ≡ Some (made n) → (1 ≤ n) × (n ≤ 2000)
word_in_range true word argument n is = spelled_in_range (number_in argument) n is
word_in_range false word argument n is = absurd (named_is_not_made (length argument == 0) (bytes_eq word (codes "replay")) (bytes_eq word (codes "keys")) argument n is)

apply_is_not_made : (applies empty : Bool) (names : Names) (n : ℕ) → (if applies then (if empty then None else Some (apply names)) else None) ≡ Some (made n) → ⊥
apply_is_not_made true true names n is = cc
apply_is_not_made true false names n is = cc
apply_is_not_made false empty names n is = cc

made_in_range : (words : List (List ℕ)) (n : ℕ) → command_in words ≡ Some (made n) → (1 ≤ n) × (n ≤ 2000)
made_in_range [] n is = cc
made_in_range (word ∷ []) n is = cc
made_in_range (word ∷ argument ∷ []) n is = word_in_range (bytes_eq word (codes "made")) word argument n is
made_in_range (word ∷ a ∷ b ∷ []) n is = cc
made_in_range (word ∷ a ∷ b ∷ c ∷ []) n is =
    absurd (apply_is_not_made (bytes_eq word (codes "apply")) ((length a == 0 || length b == 0) || length c == 0) (named a b c) n is)
made_in_range (word ∷ a ∷ b ∷ c ∷ next ∷ more) n is = cc

-- words that are its command open it
pub generated_opens : (words : List (List ℕ)) (n : ℕ) → command_in words ≡ Some (made n) → (made_opens n).outcome ≡ Passed (made_ready n)
generated_opens words n is = let range = made_in_range words n is in made_opens_ready n range.0 range.1
