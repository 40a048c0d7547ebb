-- What is written of a rule is read back as the same.
use Rattle.std.proofs.Common.{◌≡◌, ◌≢◌, ℕ, zero, suc, ◌+◌, ◌-◌, ◌<◌, ◌≤◌, ◌==◌, ◌&&◌, List, [], ◌∷◌, ◌++◌, length, length-append, take, drop, map, get_or, reverse, All, Bool, true, false, Option, None, Some, Ok, refl, sym, ap, subst, ◌∙◌, arith, add-one, append_assoc, append-nil}
use Rattle.std.specs.Prelude.{if◌then◌else◌, nat_le, nat_lt, option_and_then, codes, slice_get, unwrap_or}
use Rattle.std.proofs.lemmas.Bool.Decides.{nat_tests}
use Rattle.std.proofs.Math.Seq.{take-append_seam}
use Rattle.std.proofs.lemmas.List.{length-map, reverse-append}
use Rattle.std.proofs.lemmas.List.Elements.{All-cons, All-nil, All-head, All-tail, All-append}
use Rattle.std.specs.Fmt.{decimal}
use Rattle.std.specs.List.{find, flat_map, list_any}
use Rattle.csv.specs.Machine.{next_record}
use Rattle.csv.specs.Reading.{records, records_from, records_next, default_config, strip_bom}
use Rattle.csv.specs.Writing.{row_body, default_writer, read_back, is_blank, fields_text}
use Rattle.csv.specs.declared.parser.State.TheVariants as st
use Rattle.csv.proofs.RoundTrip.{read-write}
use Rattle.fill_records.specs.Records.{field_of, records_of}
use Rattle.fill_sheet.specs.Columns.{IsColumn}
use Rattle.fill_sheet.specs.Report.{record_text}
use Rattle.fill_numbers.specs.Columns.{before, between, columns_in, is_distinct, number_between, numbers_in}
use Rattle.fill_numbers.proofs.Numbers.{number_of_decimal}
use Rattle.fill_print.specs.Notation.{switch_text}
use Rattle.fill_print.specs.Rules.{IsSwitch}
use Rattle.fill_tokens.specs.declared.token_set.TheConstants.TokenSet as set
use Rattle.fill_apply.specs.Saved.{TextBy, is_shown, shown_text, text_of}
use Rattle.fill_tables.specs.Keys.{AreKeyColumns}
use Rattle.fillcsv_options.specs.Words.{IsLookup, LookupData, Key, Table}
use Rattle.fillcsv_rules.specs.Lookups.{at_end, lookup_in, lookup_line, lookups_from}
use Rattle.fillcsv_rules.specs.File.{FileIs, FormData, form_in, inputs_in, is_header, is_rising, names_in, output_in}
use Rattle.fillcsv_rules.specs.Rule.{IsNamed, IsRule, RuleData, header_lines, names_lines, rule_lines, rule_text}
use Rattle.fillcsv_rules.specs.declared.rule.Names.{Names}

-- a line has fields
abbrev IsLine : List (List ℕ) → Type 0
IsLine [] = ⊥
IsLine (f ∷ more) = Unit {0}

text_some : (line : List (List ℕ)) → 1 ≤ length (record_text line)
unfolding record_text
text_some line =
    let blank : List ℕ = if is_blank default_writer line then 34 ∷ 34 ∷ [] else [] in
    let all = length-append (row_body default_writer line) (blank ++ (10 ∷ [])) in
    let tail = length-append blank (10 ∷ []) in
    omega (arith, all, tail)

none_read : next_record default_config st.StartRecord [] [] [] ≡ None
unfolding next_record
none_read = refl

none_left : (n : ℕ) → records_from default_config n st.StartRecord [] ≡ []
unfolding records_from
none_left zero = refl
none_left (suc n) = rw none_read refl

same_back : (line : List (List ℕ)) → IsLine line → read_back line ≡ line
same_back [] is = absurd is
same_back (f ∷ more) is = refl

line_read : (line : List (List ℕ)) (rest : List ℕ) → IsLine line → next_record default_config st.StartRecord [] [] (record_text line ++ rest) ≡ Some (line, st.StartRecord, rest)
unfolding record_text
line_read line rest is = read-write line rest ∙ ap (λ (l : List (List ℕ)). Some (l, st.StartRecord, rest)) (same_back line is)

-- enough reads of the text of lines give the lines back
lines_read : (lines : List (List (List ℕ))) (reads : ℕ) → All IsLine lines → length (flat_map record_text lines) < reads → records_from default_config reads st.StartRecord (flat_map record_text lines) ≡ lines
unfolding records_from
lines_read [] reads are lt = none_left reads
lines_read (line ∷ lines) zero are lt = absurd (omega (arith, lt))
lines_read (line ∷ lines) (suc reads) are lt =
    let rest = flat_map record_text lines in
    let size = length-append (record_text line) rest in
    let some = text_some line in
    ap (records_next (records_from default_config reads)) (line_read line rest (All-head IsLine line lines are))
    ∙ ap (λ (l : List (List (List ℕ))). line ∷ l) (lines_read lines reads (All-tail IsLine line lines are) (omega (arith, size, some, lt)))

first_text : record_text (codes "rule" ∷ codes "1" ∷ []) ≡ codes "rule,1\n"
unfolding record_text fields_text is_blank
first_text = refl

no_mark : (rest : List ℕ) → strip_bom (codes "rule,1\n" ++ rest) ≡ codes "rule,1\n" ++ rest
unfolding strip_bom
no_mark rest = refl

lines_are : (r : RuleData) → All IsLine (rule_lines r)
lines_are r =
    let first : List (List (List ℕ)) = (codes "rule" ∷ codes "1" ∷ []) ∷ header_lines r.names in
    let columns : List (List (List ℕ)) = (codes "inputs" ∷ map decimal r.inputs) ∷ (codes "output" ∷ decimal r.output ∷ []) ∷ names_lines r.names in
    let last : List (List (List ℕ)) = (codes "switch" ∷ switch_text r.switch ∷ []) ∷ [] in
    let lines_first : All IsLine first = All-cons IsLine (codes "rule" ∷ codes "1" ∷ []) (header_lines r.names) tt (heads r.names) in
    let lines_columns : All IsLine columns = All-cons IsLine (codes "inputs" ∷ map decimal r.inputs) ((codes "output" ∷ decimal r.output ∷ []) ∷ names_lines r.names) tt
    (All-cons IsLine (codes "output" ∷ decimal r.output ∷ []) (names_lines r.names) tt (named r.names)) in
    let lines_last : All IsLine last = All-cons IsLine (codes "switch" ∷ switch_text r.switch ∷ []) [] tt (All-nil IsLine) in
    All-append IsLine ((first ++ columns) ++ map lookup_line r.lookups) last (All-append IsLine (first ++ columns) (map lookup_line r.lookups) (All-append IsLine first columns lines_first lines_columns) (looked r.lookups)) lines_last
  where
    heads : (names : Option Names) → All IsLine (header_lines names)
    heads None = All-nil IsLine
    heads (Some n) = All-cons IsLine (codes "header" ∷ []) [] tt (All-nil IsLine)

    named : (names : Option Names) → All IsLine (names_lines names)
    named None = All-nil IsLine
    named (Some n) = All-cons IsLine (codes "names" ∷ n.inputs ++ n.output ∷ []) [] tt (All-nil IsLine)

    looked : (lookups : List LookupData) → All IsLine (map lookup_line lookups)
    looked [] = All-nil IsLine
    looked (Table name file ∷ more) = All-cons IsLine (lookup_line (Table name file)) (map lookup_line more) tt (looked more)
    looked (Key table columns ∷ more) = All-cons IsLine (lookup_line (Key table columns)) (map lookup_line more) tt (looked more)

-- the records of a rule's text are its lines
lines_back : (r : RuleData) → records_of (rule_text r) ≡ rule_lines r
unfolding records_of rule_text
lines_back r =
    let lines = rule_lines r in
    let text = flat_map record_text lines in
    let rest = flat_map record_text (drop 1 lines) in
    let begins : text ≡ codes "rule,1\n" ++ rest = ap (λ (t : List ℕ). t ++ rest) first_text in
    let whole : strip_bom text ≡ text = ap strip_bom begins ∙ no_mark rest ∙ sym begins in
    ap (records default_config) whole ∙ lines_read lines (length text + 1) (lines_are r) (omega arith)

-- what stands in each line is read
number_back : (n : ℕ) → IsColumn n → number_between 1 1000 (decimal n) ≡ Some n
number_back n is =
    let first = is.first in
    let last = is.last in
    let low : nat_le 1 n ≡ true = grind (arith, nat_tests) in
    let high : nat_le n 1000 ≡ true = grind (arith, nat_tests) in
    ap (option_and_then (between 1 1000)) (number_of_decimal n (decimal n) (omega arith) refl) ∙ rw (low, high) refl

numbers_back : (ns : List ℕ) → All IsColumn ns → numbers_in 1000 (map decimal ns) ≡ Some ns
numbers_back [] are = refl
numbers_back (n ∷ ns) are = rw (number_back n (All-head IsColumn n ns are), numbers_back ns (All-tail IsColumn n ns are)) refl

rising_back : (ns : List ℕ) → ((k : ℕ) → suc k < length ns → get_or ns k 0 < get_or ns (suc k) 0) → is_rising ns ≡ true
rising_back [] up = refl
rising_back (n ∷ []) up = refl
rising_back (n ∷ m ∷ more) up =
    let less : n < m = up 0 (omega arith) in
    let test : nat_lt n m ≡ true = grind (arith, nat_tests) in
    rw (test, rising_back (m ∷ more) (λ k lt. up (suc k) (omega arith))) refl

inputs_back : (r : RuleData) → IsRule r → inputs_in (codes "inputs" ∷ map decimal r.inputs) ≡ Some r.inputs
inputs_back r is =
    let size = length-map r.inputs decimal in
    let some = is.some in
    let few = is.few in
    let low : nat_le 2 (suc (length (map decimal r.inputs))) ≡ true = grind (arith, nat_tests) in
    let high : nat_le (suc (length (map decimal r.inputs))) 9 ≡ true = grind (arith, nat_tests) in
    let up : is_rising r.inputs ≡ true = rising_back r.inputs (λ k lt. rw add-one at (is.rises k (omega arith))) in
    rw (low, high, numbers_back r.inputs is.columns, up) refl

apart_back : (inputs : List ℕ) (c : ℕ) → ((k : ℕ) → k < length inputs → get_or inputs k c ≢ c) → list_any (λ other. other == c) inputs ≡ false
apart_back [] c apart = refl
apart_back (x ∷ xs) c apart =
    let differs : x ≢ c = apart 0 (omega arith) in
    let test : (x == c) ≡ false = grind (arith, nat_tests) in
    rw (test, apart_back xs c (λ k lt. apart (suc k) (omega arith))) refl

output_back : (r : RuleData) → IsRule r → output_in r.inputs (codes "output" ∷ decimal r.output ∷ []) ≡ Some r.output
output_back r is =
    let none = apart_back r.inputs r.output (λ k lt same. is.apart (k, lt, same)) in
    rw (number_back r.output is.output, none) refl

names_back : (names : Names) (count : ℕ) → length names.inputs ≡ count → names_in count (codes "names" ∷ names.inputs ++ names.output ∷ []) ≡ Some names
names_back names count size =
    let whole = length-append names.inputs (names.output ∷ []) in
    let many : (suc (length (names.inputs ++ names.output ∷ [])) == count + 2) ≡ true = grind (arith, nat_tests) in
    let front : take count (names.inputs ++ names.output ∷ []) ≡ names.inputs = ap (λ k. take k (names.inputs ++ names.output ∷ [])) (sym size) ∙ take-append_seam names.inputs (names.output ∷ []) in
    let last : field_of (count + 2) (codes "names" ∷ names.inputs ++ names.output ∷ []) ≡ names.output = last_field names.inputs count size in
    rw (many, front, last) refl
  where
    at_end : (xs : List (List ℕ)) → slice_get (xs ++ names.output ∷ []) (length xs) ≡ Some names.output
    at_end [] = refl
    at_end (x ∷ xs) = at_end xs

    last_field : (xs : List (List ℕ)) (k : ℕ) → length xs ≡ k → field_of (k + 2) (codes "names" ∷ xs ++ names.output ∷ []) ≡ names.output
    last_field xs k is =
        let place : k + 2 - 1 ≡ suc (length xs) = omega arith in
        ap (λ i. unwrap_or (slice_get (codes "names" ∷ xs ++ names.output ∷ []) i) []) place ∙ ap (λ o. unwrap_or o []) (at_end xs)

-- tables and keys
columns_back : (ns : List ℕ) → All (λ n. 1 ≤ n) ns → All (λ n. n ≤ 4294967295) ns → numbers_in 4294967295 (map decimal ns) ≡ Some ns
columns_back [] from to = refl
columns_back (n ∷ ns) from to =
    let first = All-head (λ n. 1 ≤ n) n ns from in
    let last = All-head (λ n. n ≤ 4294967295) n ns to in
    let low : nat_le 1 n ≡ true = grind (arith, nat_tests) in
    let high : nat_le n 4294967295 ≡ true = grind (arith, nat_tests) in
    let here : number_between 1 4294967295 (decimal n) ≡ Some n = ap (option_and_then (between 1 4294967295)) (number_of_decimal n (decimal n) (omega arith) refl) ∙ rw (low, high) refl in
    rw (here, columns_back ns (All-tail (λ n. 1 ≤ n) n ns from) (All-tail (λ n. n ≤ 4294967295) n ns to)) refl

others_back : (x : ℕ) (xs : List ℕ) → ((k : ℕ) → k < length xs → get_or xs k 0 ≢ x) → list_any (λ y. y == x) xs ≡ false
others_back x [] apart = refl
others_back x (y ∷ ys) apart =
    let differs : y ≢ x = apart 0 (omega arith) in
    let test : (y == x) ≡ false = grind (arith, nat_tests) in
    rw (test, others_back x ys (λ k lt. apart (suc k) (omega arith))) refl

distinct_back : (xs : List ℕ) → ((i j : ℕ) → i < j → j < length xs → get_or xs i 0 ≢ get_or xs j 0) → is_distinct xs ≡ true
distinct_back [] apart = refl
distinct_back (x ∷ xs) apart =
    let alone = others_back x xs (λ k lt same. apart 0 (suc k) (omega arith) (omega arith) (sym same)) in
    rw (alone, distinct_back xs (λ i j less lt. apart (suc i) (suc j) (omega arith) (omega arith))) refl

key_back : (table : List ℕ) (columns : List ℕ) → AreKeyColumns columns → All (λ n. n ≤ 4294967295) columns → columns_in 2 3 4294967295 (codes "key" ∷ table ∷ map decimal columns) ≡ Some columns
key_back table columns are to =
    let size = length-map columns decimal in
    let some = are.some in
    let few = are.few in
    let low : nat_le 3 (suc (suc (length (map decimal columns)))) ≡ true = grind (arith, nat_tests) in
    let high : nat_le (suc (suc (length (map decimal columns)))) 5 ≡ true = grind (arith, nat_tests) in
    let apart : is_distinct columns ≡ true = distinct_back columns (λ i j less lt. are.distinct i j 0 less lt) in
    rw (low, high, columns_back columns are.first to, apart) refl

not_shown : (b : Bool) → (b && false) ≡ false
not_shown true = refl
not_shown false = refl

lookup_back : (l : LookupData) → IsLookup l → IsNamed l → lookup_in (lookup_line l) ≡ Some l
lookup_back (Table name file) is named = rw (named.0, named.1) refl
lookup_back (Key table columns) is named = rw (named.0, key_back table columns is named.1) refl

lookup_plain : (l : LookupData) → is_shown (lookup_line l) ≡ false
lookup_plain (Table name file) = refl
lookup_plain (Key table columns) = not_shown _

lookups_back : (number : ℕ) (before ls : List LookupData) (text : List ℕ) → All IsLookup ls → All IsNamed ls
    → lookups_from number before (map lookup_line ls ++ (codes "switch" ∷ text ∷ []) ∷ []) ≡ Ok (before ++ ls)
lookups_back number before [] text are named = ap Ok (sym (append-nil before))
lookups_back number before (l ∷ ls) text are named =
    let here = lookup_back l (All-head IsLookup l ls are) (All-head IsNamed l ls named) in
    rw (lookup_plain l, here) (lookups_back (number + 1) (before ++ l ∷ []) ls text (All-tail IsLookup l ls are) (All-tail IsNamed l ls named)) ∙ ap Ok (append_assoc before (l ∷ []) ls)

abbrev form_of : RuleData → FormData
form_of r = record { names = r.names; inputs = r.inputs; output = r.output; lookups = r.lookups }

plain_back : (r : RuleData) → IsRule r → All IsNamed r.lookups → r.names ≡ None → form_in (rule_lines r) ≡ Ok (form_of r)
plain_back r is named none =
    let bare : is_header (codes "inputs" ∷ map decimal r.inputs) ≡ false = not_shown _ in
    rw none (rw (bare, inputs_back r is, output_back r is, lookups_back 4 [] r.lookups (switch_text r.switch) is.lookups named) refl)

named_back : (r : RuleData) (names : Names) → IsRule r → All IsNamed r.lookups → r.names ≡ Some names → form_in (rule_lines r) ≡ Ok (form_of r)
named_back r names is named some =
    let size : length names.inputs ≡ length r.inputs = rw some at is.names in
    rw some (rw (inputs_back r is, output_back r is, names_back names (length r.inputs) size, lookups_back 6 [] r.lookups (switch_text r.switch) is.lookups named) refl)

form_back : (r : RuleData) → IsRule r → All IsNamed r.lookups → form_in (rule_lines r) ≡ Ok (form_of r)
form_back r is named = elim r.names as (λ (o : Option Names). r.names ≡ o → form_in (rule_lines r) ≡ Ok (form_of r)) [
  | None ↦ plain_back r is named
  | Some names ↦ λ some. named_back r names is named some
] refl

-- the last line shows the program
shown_last : (front : List (List (List ℕ))) (text : List ℕ) → shown_text (front ++ (codes "switch" ∷ text ∷ []) ∷ []) ≡ text
shown_last front text = ap (λ l. text_of (find is_shown l)) (reverse-append front ((codes "switch" ∷ text ∷ []) ∷ []))

shown_back : (r : RuleData) → shown_text (rule_lines r) ≡ switch_text r.switch
shown_back r = shown_last (((codes "rule" ∷ codes "1" ∷ []) ∷ header_lines r.names ++ (codes "inputs" ∷ map decimal r.inputs) ∷ (codes "output" ∷ decimal r.output ∷ []) ∷ names_lines r.names) ++ map lookup_line r.lookups) (switch_text r.switch)

spelled_back : (r : RuleData) → IsRule r → IsSwitch set.ALL r.switch → TextBy set.ALL r.inputs (switch_text r.switch) (Ok r.switch)
spelled_back r is switch = ((switch, refl), is.reads)

pub read_back_rule : (r : RuleData) → IsRule r → All IsNamed r.lookups → IsSwitch set.ALL r.switch → FileIs (rule_text r) (Ok r)
read_back_rule r is named switch =
    let lines = lines_back r in (
      form_of r,
      ap form_in lines ∙ form_back r is named,
      subst (λ (t : List ℕ). TextBy set.ALL r.inputs t (Ok r.switch)) (sym (ap shown_text lines ∙ shown_back r)) (spelled_back r is switch),
      refl,
    )
