-- What is true of each script.
use Rattle.std.proofs.Common.{◌≡◌, ◌≢◌, ℕ, zero, suc, ◌+◌, ◌<◌, ◌≤◌, ◌⊎◌, ◌==◌, ◌||◌, not, inl, inr, List, [], ◌∷◌, length, get_or, take, drop, Bool, true, false, All, Contains, Option, None, Some, Ok, Err, Result, refl, sym, ap, subst, ◌∙◌, arith}
use Rattle.std.specs.Prelude.{unwrap_or, if◌then◌else◌, nat_le, nat_lt, position, ⊤}
use Rattle.std.specs.List.{list_any}
use Rattle.std.specs.Option.{ForSome, is_some}
use Rattle.std.specs.Result.{IfOk}
use Rattle.std.proofs.lemmas.Bool.Decides.{nat_tests}
use Rattle.std.proofs.lemmas.List.Elements.{All-push, All-nil}
use Rattle.fill_records.specs.Records.{field_of, records_of}
use Rattle.fill_sheet.specs.Columns.{AreInputs, IsColumn, IsOutput}
use Rattle.fill_tables.specs.Keys.{AreKeyColumns}
use Rattle.fill_tree.specs.declared.profile.Profile.{Profile}
use Rattle.fill_tree.specs.declared.profile.TheConstants.Profile as named
use Rattle.fill_tree.specs.declared.user.Constants.{Constants}
use Rattle.fill_tree.specs.declared.user.Constants.TheVariants.{Any}
use Rattle.fill_numbers.specs.Columns.{columns_in, number_between}
use Rattle.fill_script.specs.Line.{constants_in, constants_of, depth_in, header_in, inputs_in, is_begin, is_text, key_from, key_in, name_in, output_in, profile_in, sheet_in, statement_in, table_from, table_in}
use Rattle.fill_script.specs.Opening.{after_line, after_lines, after_statement, clashes, is_said, is_understood, is_wide, unset, with_statement}
use Rattle.fill_script.specs.Entries.{IsEntry, entries_from}
use Rattle.fill_tree.specs.Grammar.{AreSettings}
use Rattle.fill_script.specs.Script.{IsScript, IsTableLine, assembled, profile_of, read_script, script_from, script_with, unless_more}
use Rattle.fill_script.specs.declared.error.ScriptError.{ScriptError}
use Rattle.fill_script.specs.declared.error.ScriptError.TheVariants as error
use Rattle.fill_script.specs.declared.opening.Opening.{Opening}
use Rattle.fill_script.specs.declared.script.Entry.{Entry}
use Rattle.fill_script.specs.declared.script.Script.{Script}
use Rattle.fill_script.specs.declared.script.TableLine.TheVariants.{Table, Key}
use Rattle.fill_script.specs.declared.statement.Statement.{Statement}
use Rattle.fill_script.specs.declared.statement.Statement.TheVariants as says
use Rattle.fill_script.proofs.Asked.{entries-proper, ok_same, onward_ok}
use Rattle.fill_numbers.proofs.Spelled.{columns-within, if_some, map_some, not_true, number-within}

-- what is true of what a line says
abbrev IsStatement : Statement → Type 0
IsStatement (says.Sheet file) = ⊤
IsStatement says.Header = ⊤
IsStatement (says.Inputs columns) = AreInputs columns
IsStatement (says.Output column) = IsColumn column
IsStatement (says.Lookup line) = IsTableLine line
IsStatement (says.Depth depth) = depth ≤ 3
IsStatement (says.Constants which) = ⊤
IsStatement (says.Profile profile) = (profile ≡ 1) ⊎ (profile ≡ 2)

sheet-proper : (line : List (List ℕ)) (s : Statement) → sheet_in line ≡ Some s → IsStatement s
sheet-proper line s is =
    let found = map_some says.Sheet (name_in (field_of 2 line)) s (if_some (length line == 2) _ s is).1 in
    subst IsStatement found.2 tt

header-proper : (line : List (List ℕ)) (s : Statement) → header_in line ≡ Some s → IsStatement s
header-proper line s is =
    let some : Some says.Header ≡ Some s = (if_some (length line == 1) (Some says.Header) s is).1 in
    let same : says.Header ≡ s = cc in
    subst IsStatement same tt

inputs-proper : (line : List (List ℕ)) (s : Statement) → inputs_in line ≡ Some s → IsStatement s
inputs-proper line s is =
    let found = map_some says.Inputs (columns_in 1 8 1000 line) s is in
    let columns = columns-within 1 8 1000 line found.0 found.1 in
    subst IsStatement found.2 (record {
      some = omega (arith, columns.some);
      few = columns.few;
      columns = λ k d lt. let here = columns.each k d lt in record { first = here.0; last = here.1 };
      distinct = columns.distinct;
    })

output-proper : (line : List (List ℕ)) (s : Statement) → output_in line ≡ Some s → IsStatement s
output-proper line s is =
    let found = map_some says.Output (number_between 1 1000 (field_of 2 line)) s (if_some (length line == 2) _ s is).1 in
    let within = number-within 1 1000 (field_of 2 line) found.0 found.1 in
    subst IsStatement found.2 (record { first = within.0; last = within.1 })

table_from-proper : (number : ℕ) (name file : Option (List ℕ)) (s : Statement) → table_from number name file ≡ Some s → IsStatement s
table_from-proper number None file s is = cc
table_from-proper number (Some name) None s is = cc
table_from-proper number (Some name) (Some file) s is = let same : says.Lookup (Table number name file) ≡ s = cc in subst IsStatement same tt

table-proper : (number : ℕ) (line : List (List ℕ)) (s : Statement) → table_in number line ≡ Some s → IsStatement s
table-proper number line s is = table_from-proper number _ _ s (if_some (length line == 3) _ s is).1

key_from-proper : (number : ℕ) (name columns : Option (List ℕ)) (s : Statement) → ((c : List ℕ) → columns ≡ Some c → AreKeyColumns c) → key_from number name columns ≡ Some s → IsStatement s
key_from-proper number None columns s are is = cc
key_from-proper number (Some name) None s are is = cc
key_from-proper number (Some name) (Some columns) s are is = let same : says.Lookup (Key number name columns) ≡ s = cc in subst IsStatement same (are columns refl)

key-columns : (line : List (List ℕ)) (columns : List ℕ) → columns_in 2 3 4294967295 line ≡ Some columns → AreKeyColumns columns
key-columns line columns is =
    let are = columns-within 2 3 4294967295 line columns is in
    record { some = are.some; few = are.few; first = λ k d lt. (are.each k d lt).0; distinct = are.distinct }

key-proper : (number : ℕ) (line : List (List ℕ)) (s : Statement) → key_in number line ≡ Some s → IsStatement s
key-proper number line s is = key_from-proper number _ _ s (key-columns line) is

depth-proper : (line : List (List ℕ)) (s : Statement) → depth_in line ≡ Some s → IsStatement s
depth-proper line s is =
    let found = map_some says.Depth (number_between 0 3 (field_of 2 line)) s (if_some (length line == 2) _ s is).1 in
    subst IsStatement found.2 (number-within 0 3 (field_of 2 line) found.0 found.1).1

constants-proper : (line : List (List ℕ)) (s : Statement) → constants_in line ≡ Some s → IsStatement s
constants-proper line s is =
    let found = map_some says.Constants (constants_of (field_of 2 line)) s (if_some (length line == 2) _ s is).1 in
    subst IsStatement found.2 tt

one_or_two : (n : ℕ) → 1 ≤ n → n ≤ 2 → (n ≡ 1) ⊎ (n ≡ 2)
one_or_two n first last =
    elim (n == 1) as (λ b. (n == 1) ≡ b → (n ≡ 1) ⊎ (n ≡ 2)) [
      | true ↦ λ is. let one : n ≡ 1 = grind (arith, nat_tests) in inl one
      | false ↦ λ is. let two : n ≡ 2 = grind (arith, nat_tests) in inr two
    ] refl

profile-proper : (line : List (List ℕ)) (s : Statement) → profile_in line ≡ Some s → IsStatement s
profile-proper line s is =
    let found = map_some says.Profile (number_between 1 2 (field_of 2 line)) s (if_some (length line == 2) _ s is).1 in
    let within = number-within 1 2 (field_of 2 line) found.0 found.1 in
    subst IsStatement found.2 (one_or_two found.0 within.0 within.1)

nothing : (s : Statement) → None ≡ Some s → IsStatement s
nothing s is = cc

either : (b : Bool) (x y : Option Statement) (s : Statement) → (x ≡ Some s → IsStatement s) → (y ≡ Some s → IsStatement s) → (if b then x else y) ≡ Some s → IsStatement s
either true x y s here there is = here is
either false x y s here there is = there is

statement-proper : (number : ℕ) (line : List (List ℕ)) (s : Statement) → statement_in number line ≡ Some s → IsStatement s
statement-proper number line s =
    either _ _ _ s (sheet-proper line s) (either _ _ _ s (header-proper line s) (either _ _ _ s (inputs-proper line s) (either _ _ _ s (output-proper line s)
    (either _ _ _ s (table-proper number line s) (either _ _ _ s (key-proper number line s) (either _ _ _ s (depth-proper line s)
    (either _ _ _ s (constants-proper line s) (either _ _ _ s (profile-proper line s) (nothing s)))))))))

-- a depth that the profile allows
abbrev IsDepth : Option ℕ → ℕ → Type 0
IsDepth profile depth = (depth ≤ 2) ⊎ ((depth ≤ 3) × (profile ≡ Some 2))

-- what is true of what lines have set
record IsOpening (o : Opening) : Type 0 where
  inputs : ForSome o.inputs AreInputs
  output : ForSome o.output IsColumn
  apart : clashes o.inputs o.output ≡ false
  tables : All IsTableLine o.tables
  depth : ForSome o.depth (IsDepth o.profile)
  profile : ForSome o.profile (λ p. (p ≡ 1) ⊎ (p ≡ 2))

unset-proper : IsOpening unset
unset-proper = record { inputs = λ x no. cc; output = λ x no. cc; apart = refl; tables = All-nil IsTableLine; depth = λ x no. cc; profile = λ x no. cc }

wide : (profile : Option ℕ) → is_wide profile ≡ true → profile ≡ Some 2
wide None is = cc
wide (Some p) is = let two : p ≡ 2 = grind (arith, nat_tests) in ap Some two

depth_with : (profile : Option ℕ) (depth : ℕ) → depth ≤ 3 → (nat_le depth 2 || is_wide profile) ≡ true → IsDepth profile depth
depth_with profile depth few is =
    elim (nat_le depth 2) as (λ b. nat_le depth 2 ≡ b → (b || is_wide profile) ≡ true → IsDepth profile depth) [
      | true ↦ λ low _. let le : depth ≤ 2 = grind (arith, nat_tests) in inl le
      | false ↦ λ _ high. inr (few, wide profile high)
    ] refl is

-- a depth that stands before any profile is set, stands under each
depth_kept : (depth : Option ℕ) (profile : Option ℕ) (p : ℕ) → is_some profile ≡ false → ForSome depth (IsDepth profile) → ForSome depth (IsDepth (Some p))
depth_kept depth profile p none depths d same = elim (depths d same) [
  | inl low ↦ inl low
  | inr high ↦
      let yes : is_some profile ≡ true = rw high.1 refl in
      let no : true ≡ false = sym yes ∙ none in
      cc
]

the_same : {A : Type 0} (P : A → Type 0) (x : A) → P x → ForSome (Some x) P
the_same P x holds y is = let same : x ≡ y = cc in subst P same holds

statement-kept : (o : Opening) (s : Statement) → IsOpening o → IsStatement s → is_understood o s ≡ true → is_said o s ≡ false → IsOpening (with_statement o s)
statement-kept o (says.Sheet file) is says understood said = record { inputs = is.inputs; output = is.output; apart = is.apart; tables = is.tables; depth = is.depth; profile = is.profile }
statement-kept o says.Header is says understood said = record { inputs = is.inputs; output = is.output; apart = is.apart; tables = is.tables; depth = is.depth; profile = is.profile }
statement-kept o (says.Inputs columns) is says understood said = record { inputs = the_same AreInputs columns says; output = is.output; apart = not_true _ understood; tables = is.tables; depth = is.depth; profile = is.profile }
statement-kept o (says.Output column) is says understood said = record { inputs = is.inputs; output = the_same IsColumn column says; apart = not_true _ understood; tables = is.tables; depth = is.depth; profile = is.profile }
statement-kept o (says.Lookup line) is says understood said = record { inputs = is.inputs; output = is.output; apart = is.apart; tables = All-push IsTableLine o.tables line is.tables says; depth = is.depth; profile = is.profile }
statement-kept o (says.Depth depth) is says understood said = record { inputs = is.inputs; output = is.output; apart = is.apart; tables = is.tables; depth = the_same (IsDepth o.profile) depth (depth_with o.profile depth says understood); profile = is.profile }
statement-kept o (says.Constants which) is says understood said = record { inputs = is.inputs; output = is.output; apart = is.apart; tables = is.tables; depth = is.depth; profile = is.profile }
statement-kept o (says.Profile profile) is says understood said = record { inputs = is.inputs; output = is.output; apart = is.apart; tables = is.tables; depth = depth_kept o.depth o.profile profile said is.depth; profile = the_same (λ p. (p ≡ 1) ⊎ (p ≡ 2)) profile says }

refused : (e : ScriptError) (p : Opening) → (let r : Result Opening ScriptError = Err e in r ≡ Ok p) → IsOpening p
refused e p is = cc

after_statement-kept : (o : Opening) (number : ℕ) (found : Option Statement) (p : Opening) → IsOpening o → ((s : Statement) → found ≡ Some s → IsStatement s) → after_statement o number found ≡ Ok p → IsOpening p
after_statement-kept o number None p is proper made = refused (error.BadRecord number) p made
after_statement-kept o number (Some s) p is proper made =
    elim (is_understood o s) as (λ b. is_understood o s ≡ b → (if not b then Err (error.BadRecord number) else if is_said o s then Err (error.Again number) else Ok (with_statement o s)) ≡ Ok p → IsOpening p) [
      | false ↦ λ _ no. refused (error.BadRecord number) p no
      | true ↦ λ understood rest.
          elim (is_said o s) as (λ b. is_said o s ≡ b → (if b then Err (error.Again number) else Ok (with_statement o s)) ≡ Ok p → IsOpening p) [
            | true ↦ λ _ no. refused (error.Again number) p no
            | false ↦ λ said yes. subst IsOpening (ok_same (with_statement o s) p yes) (statement-kept o s is (proper s refl) understood said)
          ] refl rest
    ] refl made

after_line-kept : (o : Opening) (number : ℕ) (line : List (List ℕ)) (p : Opening) → IsOpening o → after_line o number line ≡ Ok p → IsOpening p
after_line-kept o number line p is made =
    elim (is_text line) as (λ b. (if b then after_statement o number (statement_in number line) else Err (error.NotUtf8 number)) ≡ Ok p → IsOpening p) [
      | true ↦ λ found. after_statement-kept o number (statement_in number line) p is (statement-proper number line) found
      | false ↦ λ no. refused (error.NotUtf8 number) p no
    ] made

after_lines-kept : (o : Opening) (number : ℕ) (lines : List (List (List ℕ))) (p : Opening) → IsOpening o → after_lines o number lines ≡ Ok p → IsOpening p
after_lines-kept o number [] p is made = subst IsOpening (ok_same o p made) is
after_lines-kept o number (line ∷ more) p is made =
    let first = onward_ok (λ q. after_lines q (number + 1) more) (after_line o number line) p made in
    after_lines-kept first.0 (number + 1) more p (after_line-kept o number line first.0 is first.1) first.2

-- both profiles of the session file allow lookups two deep, and the second one three deep
limit : (p : ℕ) → (2 ≤ (profile_of p).depth) × ((profile_of p).depth ≤ 3)
limit p = elim (p == 2) as (λ b. let q : Profile = if b then named.SECOND else named.FIRST in (2 ≤ q.depth) × (q.depth ≤ 3))
    [ true ↦ (omega arith, omega arith) | false ↦ (omega arith, omega arith) ]

settings-proper : (depth number : Option ℕ) (constants : Option Constants) → ForSome depth (IsDepth number) → ForSome number (λ p. (p ≡ 1) ⊎ (p ≡ 2))
    → AreSettings (record { depth = unwrap_or depth 1; constants = unwrap_or constants Any; profile = profile_of (unwrap_or number 1) })
settings-proper None number constants depths numbers = let most = limit (unwrap_or number 1) in (omega (arith, most.0), most.1)
settings-proper (Some d) None constants depths numbers = elim (depths d refl) [
  | inl low ↦ (low, (limit 1).1)
  | inr high ↦ let no : None ≡ Some 2 = high.1 in cc
]
settings-proper (Some d) (Some p) constants depths numbers = elim (depths d refl) [
  | inl low ↦ (omega (arith, low, (limit p).0), (limit p).1)
  | inr high ↦
      let two : p ≡ 2 = let some : Some p ≡ Some 2 = high.1 in cc in
      subst (λ n. (d ≤ (profile_of n).depth) × ((profile_of n).depth ≤ 3)) (sym two) (high.0, omega arith)
]

not_among-at : (xs : List ℕ) (column k : ℕ) → list_any (λ input. input == column) xs ≡ false → k < length xs → get_or xs k column ≢ column
not_among-at [] column k none lt same = absurd (omega arith)
not_among-at (x ∷ xs) column zero none lt same =
    let here : (x == column) ≡ true = grind (arith, nat_tests) in
    let no : true ≡ false = rw here at none in cc
not_among-at (x ∷ xs) column (suc k) none lt same =
    elim (x == column) as (λ b. (x == column) ≡ b → ⊥) [
      | true ↦ λ is. let no : true ≡ false = rw is at none in cc
      | false ↦ λ is. not_among-at xs column k (rw is at none) (omega arith) same
    ] refl

not_among : (inputs : List ℕ) (column : ℕ) → list_any (λ input. input == column) inputs ≡ false → ¬ (Contains inputs column)
not_among inputs column none there = not_among-at inputs column there.0 none there.1 there.2

output-apart : (inputs : List ℕ) (output : Option ℕ) → ForSome output IsColumn → clashes (Some inputs) output ≡ false → IsOutput inputs output
output-apart inputs None column apart = tt
output-apart inputs (Some output) column apart = (column output refl, not_among inputs output apart)

not_read : (e : ScriptError) (script : Script) → (let r : Result Script ScriptError = Err e in r ≡ Ok script) → IsScript script
not_read e script is = cc

script_with-proper : (o : Opening) (sheet inputs : Option (List ℕ)) (entries : Result (List Entry) ScriptError) (script : Script) → IsOpening o → inputs ≡ o.inputs
    → ((es : List Entry) → entries ≡ Ok es → All IsEntry es) → script_with o sheet inputs entries ≡ Ok script → IsScript script
script_with-proper o None inputs entries script is same asked made = not_read error.MissingSheet script made
script_with-proper o (Some sheet) None entries script is same asked made = not_read error.MissingInputs script made
script_with-proper o (Some sheet) (Some inputs) entries script is same asked made =
    let found = onward_ok (λ es. Ok (assembled o sheet inputs es)) entries script made in
    subst IsScript (ok_same (assembled o sheet inputs found.0) script found.2) (record {
      inputs = is.inputs inputs (sym same);
      output = output-apart inputs o.output is.output (rw same is.apart);
      tables = is.tables;
      settings = settings-proper o.depth o.profile o.constants is.depth is.profile;
      entries = asked found.0 found.1;
    })

unless_more-proper : (more : Bool) (r : Result (List Entry) ScriptError) → ((es : List Entry) → r ≡ Ok es → All IsEntry es) → (es : List Entry) → unless_more more r ≡ Ok es → All IsEntry es
unless_more-proper false r asked es is = asked es is
unless_more-proper true (Ok all) asked es is = cc
unless_more-proper true (Err e) asked es is = cc

script_from-proper : (lines : List (List (List ℕ))) (more : Bool) (place : Option ℕ) (script : Script) → script_from lines more place ≡ Ok script → IsScript script
script_from-proper lines more None script made =
    let e = if more then error.TooManyRecords 1000 else error.MissingBegin in
    let found = onward_ok (λ (o : Opening). Err e) (after_lines unset 1 lines) script made in
    not_read e script found.2
script_from-proper lines more (Some place) script made =
    let entries = unless_more more (entries_from (place + 2) (drop (place + 1) lines)) in
    let found = onward_ok (λ (o : Opening). script_with o o.sheet o.inputs entries) (after_lines unset 1 (take place lines)) script made in
    script_with-proper found.0 found.0.sheet found.0.inputs entries script (after_lines-kept unset 1 (take place lines) found.0 unset-proper found.1) refl
    (unless_more-proper more (entries_from (place + 2) (drop (place + 1) lines)) (entries-proper (place + 2) (drop (place + 1) lines))) found.2

pub IfOk-map : {T E : Type 0} (r : Result T E) (P Q : T → Type 0) → ((x : T) → P x → Q x) → IfOk r P → IfOk r Q
IfOk-map (Ok x) P Q f p = f x p
IfOk-map (Err e) P Q f p = p

-- a script that is read is one
pub script-proper : (bytes : List ℕ) (script : Script) → read_script bytes ≡ Ok script → IsScript script
unfolding read_script
script-proper bytes script made = script_from-proper (take 1000 (records_of bytes)) (nat_lt 1000 (length (records_of bytes))) (position is_begin (take 1000 (records_of bytes))) script made
