-- What is true of the rule of each file.
use Rattle.std.proofs.Common.{◌≡◌, ◌≢◌, ℕ, zero, suc, ◌+◌, ◌*◌, ◌<◌, ◌≤◌, ◌==◌, ◌&&◌, List, [], ◌∷◌, ◌++◌, length, take, drop, get_or, All, Contains, Bool, true, false, Option, None, Some, Result, Ok, Err, refl, sym, ap, subst, ◌∙◌, arith, add-one}
use Rattle.std.specs.Prelude.{if◌then◌else◌, nat_le, nat_lt, option_and_then, codes}
use Rattle.std.proofs.lemmas.Bool.{and_parts}
use Rattle.std.proofs.lemmas.Bool.Decides.{nat_tests}
use Rattle.std.proofs.lemmas.List.{length-drop, length-take, take_all, take_more}
use Rattle.std.proofs.lemmas.List.Elements.{All-cons, All-nil}
use Rattle.std.specs.List.{list_any}
use Rattle.std.specs.List.Sorted.{IsStrictlyIncreasing}
use Rattle.fill_text.specs.Data.{nth}
use Rattle.fill_records.specs.Records.{field_of, records_of}
use Rattle.fill_sheet.specs.Columns.{IsColumn}
use Rattle.fill_sheet.specs.declared.columns.TheConstants.{LAST_COLUMN, MOST_INPUTS}
use Rattle.fill_numbers.specs.Columns.{before, has_form, is_word, number_between, numbers_in}
use Rattle.fill_numbers.proofs.Spelled.{if_some, then_some, number-within}
use Rattle.fill_tokens.specs.declared.token_set.TheConstants.TokenSet as set
use Rattle.fill_apply.specs.Saved.{SavedBy, columns_read}
use Rattle.fill_tree.specs.Switch.{SwitchTree}
use Rattle.fillcsv_options.specs.Words.{IsLookup, LookupData}
use Rattle.fillcsv_rules.specs.Lookups.{from_line, lookups_from}
use Rattle.fillcsv_rules.specs.File.{FileIs, FormData, form_in, if_apart, if_rising, inputs_in, is_first, is_header, is_rising, named_form, names_in, output_in, plain_form, says, with_value}
use Rattle.fillcsv_rules.specs.Rule.{AreNamesOf, IsRule}
use Rattle.fillcsv_rules.specs.declared.rule.Names.{Names}
use Rattle.fillcsv_rules.proofs.TableLines.{lookups_proper}

before-some : (o : Option ℕ) (rest : Option (List ℕ)) (ns : List ℕ) → before o rest ≡ Some ns → (n : ℕ) × (more : List ℕ) × (o ≡ Some n) × (rest ≡ Some more) × (n ∷ more ≡ ns)
before-some None rest ns is = cc
before-some (Some n) None ns is = cc
before-some (Some n) (Some more) ns is = (n, more, refl, refl, cc)

numbers-columns : (fields : List (List ℕ)) (ns : List ℕ) → numbers_in 1000 fields ≡ Some ns → (length ns ≡ length fields) × All IsColumn ns
numbers-columns [] ns is = let none : [] ≡ ns = cc in rw (← none) (refl, All-nil IsColumn)
numbers-columns (f ∷ more) ns is =
    let parts = before-some (number_between 1 1000 f) (numbers_in 1000 more) ns is in
    let rest = numbers-columns more parts.1 parts.3 in
    let here = number-within 1 1000 f parts.0 parts.2 in
    rw (← parts.4) (ap suc rest.0, All-cons IsColumn parts.0 parts.1 (record { first = here.0; last = here.1 }) rest.1)

rises : (xs : List ℕ) → is_rising xs ≡ true → (k : ℕ) → suc k < length xs → get_or xs k 0 < get_or xs (suc k) 0
rises [] is k lt = absurd (omega arith)
rises (n ∷ []) is k lt = absurd (omega arith)
rises (n ∷ m ∷ more) is zero lt =
    let parts = and_parts (nat_lt n m) (is_rising (m ∷ more)) is in
    let test : nat_lt n m ≡ true = parts.0 in
    let less : n < m = grind (arith, nat_tests) in less
rises (n ∷ m ∷ more) is (suc k) lt =
    let parts = and_parts (nat_lt n m) (is_rising (m ∷ more)) is in
    rises (m ∷ more) parts.1 k (omega arith)

rising-strict : (xs : List ℕ) → is_rising xs ≡ true → IsStrictlyIncreasing xs
rising-strict xs is k lt = rw add-one (rises xs is k (omega arith))

-- columns that are read
record AreInputColumns (xs : List ℕ) : Type 0 where
  some : 1 ≤ length xs
  few : length xs ≤ 8
  columns : All IsColumn xs
  rising : IsStrictlyIncreasing xs

inputs-columns : (line : List (List ℕ)) (xs : List ℕ) → inputs_in line ≡ Some xs → AreInputColumns xs
inputs-columns line xs is =
    let chosen = if_some (is_word (codes "inputs") line && (nat_le 2 (length line) && nat_le (length line) 9)) (option_and_then if_rising (numbers_in 1000 (drop 1 line))) xs is in
    let form = and_parts (is_word (codes "inputs") line) (nat_le 2 (length line) && nat_le (length line) 9) chosen.0 in
    let tests = and_parts (nat_le 2 (length line)) (nat_le (length line) 9) form.1 in
    let low : nat_le 2 (length line) ≡ true = tests.0 in
    let high : nat_le (length line) 9 ≡ true = tests.1 in
    let from : 2 ≤ length line = grind (arith, nat_tests) in
    let to : length line ≤ 9 = grind (arith, nat_tests) in
    let found = then_some if_rising (numbers_in 1000 (drop 1 line)) xs chosen.1 in
    let up = if_some (is_rising found.0) (Some found.0) xs found.2 in
    let same : found.0 ≡ xs = (let some : Some found.0 ≡ Some xs = up.1 in cc) in
    let facts = numbers-columns (drop 1 line) found.0 found.1 in
    let size = length-drop 1 line in
    subst AreInputColumns same (record {
      some = omega (arith, facts.0, size);
      few = omega (arith, facts.0, size);
      columns = facts.1;
      rising = rising-strict found.0 up.0;
    })

-- the fields of a line of inputs give no more numbers than a sheet may have inputs
pub few_numbers : (line : List (List ℕ)) (xs : List ℕ) (form : Bool) → form ≡ (is_word (codes "inputs") line && (nat_le 2 (length line) && nat_le (length line) (MOST_INPUTS + 1))) → form ≡ true
    → Some xs ≡ numbers_in LAST_COLUMN (drop 1 line) → length xs ≤ MOST_INPUTS
few_numbers line xs form is holds given =
    let parts = and_parts (is_word (codes "inputs") line) (nat_le 2 (length line) && nat_le (length line) 9) (sym is ∙ holds) in
    let tests = and_parts (nat_le 2 (length line)) (nat_le (length line) 9) parts.1 in
    let high : nat_le (length line) 9 ≡ true = tests.1 in
    let to : length line ≤ 9 = grind (arith, nat_tests) in
    let facts = numbers-columns (drop 1 line) xs (sym given) in
    omega (arith, facts.0, length-drop 1 line)

-- a list of one number at most rises
pub short_rising : (xs : List ℕ) → length xs ≤ 1 → is_rising xs ≡ true
short_rising [] few = refl
short_rising (n ∷ []) few = refl
short_rising (n ∷ m ∷ more) few = absurd (omega arith)

-- one field more is taken
pub field_next : (line : List (List ℕ)) (fields now : List (List ℕ)) (field : List ℕ) (i : ℕ) → i + 1 < length line → fields ≡ take i (drop 1 line) → field ≡ get_or line (i + 1) []
    → now ≡ fields ++ field ∷ [] → now ≡ take (i + 1) (drop 1 line)
field_next [] fields now field i lt here is put = absurd (omega arith)
field_next (f ∷ more) fields now field i lt here is put =
    let next : field ≡ get_or more i [] = rw add-one at is in
    put ∙ ap (λ (l : List (List ℕ)). l ++ field ∷ []) here ∙ ap (λ (x : List ℕ). take i more ++ x ∷ []) next ∙ sym (take_more more i [] (omega arith))

not_among : (xs : List ℕ) (c k d : ℕ) → list_any (λ other. other == c) xs ≡ false → k < length xs → get_or xs k d ≢ c
not_among [] c k d none lt same = absurd (omega arith)
not_among (x ∷ xs) c zero d none lt same =
    let here : (x == c) ≡ true = grind (arith, nat_tests) in
    let no : true ≡ false = rw here at none in cc
not_among (x ∷ xs) c (suc k) d none lt same =
    elim (x == c) as (λ b. (x == c) ≡ b → ⊥) [
      | true ↦ λ is. let no : true ≡ false = rw is at none in cc
      | false ↦ λ is. not_among xs c k d (rw is at none) (omega arith) same
    ] refl

apart-other : (inputs : List ℕ) (c d : ℕ) → if_apart inputs c ≡ Some d → (c ≡ d) × ¬ (Contains inputs d)
apart-other inputs c d is =
    elim (list_any (λ other. other == c) inputs) as (λ b. list_any (λ other. other == c) inputs ≡ b → (if b then None else Some c) ≡ Some d → (c ≡ d) × ¬ (Contains inputs d)) [
      | true ↦ λ _ bad. cc
      | false ↦ λ none some.
          let same : c ≡ d = cc in
          (same, subst (λ (x : ℕ). ¬ (Contains inputs x)) same (λ found. not_among inputs c found.0 c none found.1 found.2))
    ] refl is

output-column : (inputs : List ℕ) (line : List (List ℕ)) (c : ℕ) → output_in inputs line ≡ Some c → IsColumn c × ¬ (Contains inputs c)
output-column inputs line c is =
    let chosen = if_some (has_form (codes "output") 2 line) (option_and_then (if_apart inputs) (number_between 1 1000 (field_of 2 line))) c is in
    let found = then_some (if_apart inputs) (number_between 1 1000 (field_of 2 line)) c chosen.1 in
    let other = apart-other inputs found.0 c found.2 in
    let within = number-within 1 1000 (field_of 2 line) found.0 found.1 in
    (subst IsColumn other.0 (record { first = within.0; last = within.1 }), other.1)

names-count : (count : ℕ) (line : List (List ℕ)) (names : Names) → names_in count line ≡ Some names → length names.inputs ≡ count
names-count count line names is =
    let chosen = if_some (has_form (codes "names") (count + 2) line) (Some (record { inputs = take count (drop 1 line); output = field_of (count + 2) line })) names is in
    let form = and_parts (length line == count + 2) _ chosen.0 in
    let test : (length line == count + 2) ≡ true = form.0 in
    let size : length line ≡ count + 2 = grind (arith, nat_tests) in
    let same : take count (drop 1 line) ≡ names.inputs = (let some : Some (record { inputs = take count (drop 1 line); output = field_of (count + 2) line }) ≡ Some names = chosen.1 in cc) in
    ap length (sym same) ∙ (let taken = length-take count (drop 1 line) in let dropped = length-drop 1 line in omega (arith, taken, dropped))

from_some : {A B : Type 0} (number : ℕ) (o : Option A) (rest : A → Result B ℕ) (y : B) → from_line number o rest ≡ Ok y → (x : A) × (o ≡ Some x) × (rest x ≡ Ok y)
from_some number None rest y is = cc
from_some number (Some x) rest y is = (x, refl, is)

-- what is true of the form of each file
pub record IsForm (f : FormData) : Type 0 where
  pub some : 1 ≤ length f.inputs
  pub few : length f.inputs ≤ 8
  pub columns : All IsColumn f.inputs
  pub rises : IsStrictlyIncreasing f.inputs
  pub output : IsColumn f.output
  pub apart : ¬ (Contains f.inputs f.output)
  pub names : AreNamesOf f.inputs f.names
  pub lookups : All IsLookup f.lookups

with_some : {A B : Type 0} (make : A → B) (r : Result A ℕ) (y : B) → with_value make r ≡ Ok y → (x : A) × (r ≡ Ok x) × (make x ≡ y)
with_some make (Ok x) y is = (x, refl, cc)
with_some make (Err number) y is = cc

made-form : (names : Option Names) (inputs : List ℕ) (output : ℕ) (lookups : List LookupData) → AreInputColumns inputs → IsColumn output × ¬ (Contains inputs output) → AreNamesOf inputs names
    → All IsLookup lookups → IsForm (record { names = names; inputs = inputs; output = output; lookups = lookups })
made-form names inputs output lookups are is named looked = record {
  some = are.some;
  few = are.few;
  columns = are.columns;
  rises = are.rising;
  output = is.0;
  apart = is.1;
  names = named;
  lookups = looked;
}

plain-proper : (lines : List (List (List ℕ))) (f : FormData) → plain_form lines ≡ Ok f → IsForm f
plain-proper lines f is =
    let one = from_some 2 (option_and_then inputs_in (nth lines 2)) _ f is in
    let line = then_some inputs_in (nth lines 2) one.0 one.1 in
    let two = from_some 3 (option_and_then (output_in one.0) (nth lines 3)) _ f one.2 in
    let line2 = then_some (output_in one.0) (nth lines 3) two.0 two.1 in
    let last = with_some (λ lookups. record { names = None; inputs = one.0; output = two.0; lookups = lookups }) (lookups_from 4 [] (drop 3 lines)) f two.2 in
    subst IsForm last.2 (made-form None one.0 two.0 last.0 (inputs-columns line.0 one.0 line.2) (output-column one.0 line2.0 two.0 line2.2) tt
    (lookups_proper (drop 3 lines) 4 [] last.0 (All-nil IsLookup) last.1))

named-proper : (lines : List (List (List ℕ))) (f : FormData) → named_form lines ≡ Ok f → IsForm f
named-proper lines f is =
    let one = from_some 3 (option_and_then inputs_in (nth lines 3)) _ f is in
    let line = then_some inputs_in (nth lines 3) one.0 one.1 in
    let two = from_some 4 (option_and_then (output_in one.0) (nth lines 4)) _ f one.2 in
    let line2 = then_some (output_in one.0) (nth lines 4) two.0 two.1 in
    let three = from_some 5 (option_and_then (names_in (length one.0)) (nth lines 5)) _ f two.2 in
    let line3 = then_some (names_in (length one.0)) (nth lines 5) three.0 three.1 in
    let last = with_some (λ lookups. record { names = Some three.0; inputs = one.0; output = two.0; lookups = lookups }) (lookups_from 6 [] (drop 5 lines)) f three.2 in
    subst IsForm last.2 (made-form (Some three.0) one.0 two.0 last.0 (inputs-columns line.0 one.0 line.2) (output-column one.0 line2.0 two.0 line2.2)
    (names-count (length one.0) line3.0 three.0 line3.2) (lookups_proper (drop 5 lines) 6 [] last.0 (All-nil IsLookup) last.1))

pub form-proper : (lines : List (List (List ℕ))) (f : FormData) → form_in lines ≡ Ok f → IsForm f
form-proper lines f is = first (says is_first (nth lines 1)) (says is_header (nth lines 2)) is
  where
    first : (begins headed : Bool) → (if begins then (if headed then named_form lines else plain_form lines) else Err 1) ≡ Ok f → IsForm f
    first true true h = named-proper lines f h
    first true false h = plain-proper lines f h
    first false headed h = cc

pub rule-of-form : (f : FormData) (s : SwitchTree) → IsForm f → All (Contains f.inputs) (columns_read s.cases)
    → IsRule (record { names = f.names; inputs = f.inputs; output = f.output; lookups = f.lookups; switch = s })
rule-of-form f s is reads = record {
  some = is.some;
  few = is.few;
  columns = is.columns;
  rises = is.rises;
  output = is.output;
  apart = is.apart;
  names = is.names;
  lookups = is.lookups;
  reads = reads;
}

-- the rule that a file's lines say
pub file_is : (bytes : List ℕ) (f : FormData) (s : SwitchTree) (lines : List (List (List ℕ))) → form_in lines ≡ Ok f → lines ≡ take (length bytes) (records_of bytes)
    → 2 * length (records_of bytes) ≤ length bytes + 1 → SavedBy set.ALL f.inputs bytes (Ok s) → FileIs bytes (Ok (record { names = f.names; inputs = f.inputs; output = f.output; lookups = f.lookups; switch = s }))
file_is bytes f s lines is read few saved =
    let all : take (length bytes) (records_of bytes) ≡ records_of bytes = take_all (length bytes) (records_of bytes) (omega arith) in
    (f, ap form_in (sym (read ∙ all)) ∙ is, saved, refl)
