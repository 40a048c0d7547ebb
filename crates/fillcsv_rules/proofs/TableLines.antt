-- Lines of tables and keys.
use Rattle.std.proofs.Common.{◌≡◌, ℕ, ◌+◌, ◌<◌, List, [], ◌∷◌, ◌++◌, length, drop, get_or, All, Bool, true, false, Option, None, Some, Result, Ok, refl, sym, ap, subst, ◌∙◌, arith, add-one}
use Rattle.std.specs.Prelude.{if◌then◌else◌, codes}
use Rattle.std.proofs.Math.Seq.{drop-cons}
use Rattle.std.proofs.lemmas.List.Elements.{All-push}
use Rattle.fill_tables.specs.Keys.{AreKeyColumns}
use Rattle.fill_records.specs.Records.{field_of}
use Rattle.fill_numbers.specs.Columns.{columns_in, has_form, is_word}
use Rattle.fill_numbers.proofs.Spelled.{columns-within, if_some}
use Rattle.fill_apply.specs.Saved.{is_shown}
use Rattle.fillcsv_options.specs.Words.{IsLookup, LookupData, Key, Table}
use Rattle.fillcsv_rules.specs.Lookups.{at_end, from_line, key_in, key_of, lookup_in, lookups_from, table_in, table_of, text_in}

-- the lines that are left begin with the next one
left_lines : (lines : List (List (List ℕ))) (i : ℕ) → i < length lines → drop i lines ≡ get_or lines i [] ∷ drop (i + 1) lines
left_lines lines i lt = drop-cons lines i [] lt ∙ ap (λ k. get_or lines i [] ∷ drop k lines) (sym (add-one i))

-- one line more was looked at
pub lookups_next : (lines : List (List (List ℕ))) (number i : ℕ) (before : List LookupData) (lookup : LookupData) → i < length lines → is_shown (get_or lines i []) ≡ false
    → lookup_in (get_or lines i []) ≡ Some lookup → lookups_from (number + i) before (drop i lines) ≡ lookups_from (number + (i + 1)) (before ++ lookup ∷ []) (drop (i + 1) lines)
lookups_next lines number i before lookup lt plain says =
    let next : number + i + 1 ≡ number + (i + 1) = omega arith in
    ap (lookups_from (number + i) before) (left_lines lines i lt)
    ∙ rw (plain, says) (ap (λ n. lookups_from n (before ++ lookup ∷ []) (drop (i + 1) lines)) next)

-- what a line says is proper
table_proper : (line : List (List ℕ)) (x : LookupData) → table_in line ≡ Some x → IsLookup x
table_proper line x is = of (text_in (field_of 2 line)) (text_in (field_of 3 line)) (if_some (has_form (codes "table") 3 line) (table_of (text_in (field_of 2 line)) (text_in (field_of 3 line))) x is).1
  where
    of : (name file : Option (List ℕ)) → table_of name file ≡ Some x → IsLookup x
    of None file made = cc
    of (Some name) None made = cc
    of (Some name) (Some file) made = let same : Table name file ≡ x = cc in subst IsLookup same tt

columns_proper : (line : List (List ℕ)) (columns : List ℕ) → columns_in 2 3 4294967295 line ≡ Some columns → AreKeyColumns columns
columns_proper line columns is =
    let are = columns-within 2 3 4294967295 line columns is in
    record { some = are.some; few = are.few; first = λ k d lt. (are.each k d lt).0; distinct = are.distinct }

key_proper : (line : List (List ℕ)) (x : LookupData) → key_in line ≡ Some x → IsLookup x
key_proper line x is = of (text_in (field_of 2 line)) (columns_in 2 3 4294967295 line) refl (if_some (is_word (codes "key") line) (key_of (text_in (field_of 2 line)) (columns_in 2 3 4294967295 line)) x is).1
  where
    of : (table : Option (List ℕ)) (columns : Option (List ℕ)) → columns_in 2 3 4294967295 line ≡ columns → key_of table columns ≡ Some x → IsLookup x
    of None columns are made = cc
    of (Some table) None are made = cc
    of (Some table) (Some columns) are made = let same : Key table columns ≡ x = cc in subst IsLookup same (columns_proper line columns are)

lookup_proper : (line : List (List ℕ)) (x : LookupData) → lookup_in line ≡ Some x → IsLookup x
lookup_proper line x is = by (is_word (codes "table") line) is
  where
    by : (b : Bool) → (if b then table_in line else key_in line) ≡ Some x → IsLookup x
    by true h = table_proper line x h
    by false h = key_proper line x h

-- and so is all that lines say
proper_end : (number : ℕ) (before all : List LookupData) (rest : List (List (List ℕ))) → All IsLookup before → at_end number before rest ≡ Ok all → All IsLookup all
proper_end number before all [] are h = let same : before ≡ all = cc in subst (All IsLookup) same are
proper_end number before all (line ∷ more) are h = cc

proper_line : (number : ℕ) (line : List (List ℕ)) (all : List LookupData) (rest : LookupData → Result (List LookupData) ℕ) (o : Option LookupData)
    → lookup_in line ≡ o → ((x : LookupData) → IsLookup x → rest x ≡ Ok all → All IsLookup all) → from_line number o rest ≡ Ok all → All IsLookup all
proper_line number line all rest None says onward h = cc
proper_line number line all rest (Some x) says onward h = onward x (lookup_proper line x says) h

proper_by : (b : Bool) (one two : Result (List LookupData) ℕ) (all : List LookupData) → (one ≡ Ok all → All IsLookup all) → (two ≡ Ok all → All IsLookup all)
    → (if b then one else two) ≡ Ok all → All IsLookup all
proper_by true one two all first second h = first h
proper_by false one two all first second h = second h

pub lookups_proper : (lines : List (List (List ℕ))) (number : ℕ) (before all : List LookupData) → All IsLookup before → lookups_from number before lines ≡ Ok all → All IsLookup all
lookups_proper [] number before all are is = cc
lookups_proper (line ∷ more) number before all are is =
    let rest : LookupData → Result (List LookupData) ℕ = λ lookup. lookups_from (number + 1) (before ++ lookup ∷ []) more in
    proper_by (is_shown line) (at_end (number + 1) before more) (from_line number (lookup_in line) rest) all
    (proper_end (number + 1) before all more are)
    (proper_line number line all rest (lookup_in line) refl (λ x mine h. lookups_proper more (number + 1) (before ++ x ∷ []) all (All-push IsLookup before x are mine) h))
    is
