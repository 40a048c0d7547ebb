-- Fields of a record: numbers, distinct columns.
use Rattle.std.proofs.Common.{◌≡◌, ◌≢◌, ℕ, zero, suc, ◌+◌, ◌-◌, ◌<◌, ◌≤◌, ◌==◌, ◌&&◌, not, List, [], ◌∷◌, ◌++◌, length, get_or, drop, slice_get, Bool, true, false, IsTrue, All, AllPairs, Option, None, Some, refl, sym, ap, ◌∙◌, arith}
use Rattle.std.specs.Prelude.{unwrap_or, if◌then◌else◌, nat_le, option_and_then, option_map}
use Rattle.std.specs.List.{list_all, list_any}
use Rattle.std.proofs.lemmas.Bool.{and_parts}
use Rattle.std.proofs.lemmas.Bool.Decides.{nat_tests}
use Rattle.std.proofs.lemmas.List.{length-drop}
use Rattle.std.proofs.lemmas.List.Elements.{All-cons, All-nil}
use Rattle.fill_numbers.specs.Columns.{before, between, columns_in, if_distinct, is_distinct, number_between, numbers_in}
use Rattle.fill_numbers.specs.Number.{number_in}

pub read_at : {A : Type 0} (xs : List A) (i : ℕ) (d : A) → unwrap_or (slice_get xs i) d ≡ get_or xs i d
read_at [] i d = refl
read_at (x ∷ xs) zero d = refl
read_at (x ∷ xs) (suc i) d = read_at xs i d

-- the numbers that were read, before those of the fields that are left
abbrev pub after_numbers : List ℕ → Option (List ℕ) → Option (List ℕ)
after_numbers done None = None
after_numbers done (Some rest) = Some (done ++ rest)

-- what a choice that gave something gave it from
pub if_some : {A : Type 0} (b : Bool) (o : Option A) (y : A) → (if b then o else None) ≡ Some y → (b ≡ true) × (o ≡ Some y)
if_some true o y is = (refl, is)
if_some false o y is = cc

pub then_some : {A B : Type 0} (f : A → Option B) (o : Option A) (y : B) → option_and_then f o ≡ Some y → (x : A) × (o ≡ Some x) × (f x ≡ Some y)
then_some f None y is = cc
then_some f (Some x) y is = (x, refl, is)

pub map_some : {A B : Type 0} (f : A → B) (o : Option A) (y : B) → option_map f o ≡ Some y → (x : A) × (o ≡ Some x) × (f x ≡ y)
map_some f None y is = cc
map_some f (Some x) y is = (x, refl, cc)

pub between-within : (low high n m : ℕ) → between low high n ≡ Some m → (low ≤ m) × (m ≤ high)
between-within low high n m is =
    let chosen = if_some (nat_le low n && nat_le n high) (Some n) m is in
    let tests = and_parts (nat_le low n) (nat_le n high) chosen.0 in
    let first : nat_le low n ≡ true = tests.0 in
    let last : nat_le n high ≡ true = tests.1 in
    let same : n ≡ m = let some : Some n ≡ Some m = chosen.1 in cc in
    let from : low ≤ n = grind (arith, nat_tests) in
    let to : n ≤ high = grind (arith, nat_tests) in
    (omega arith, omega arith)

pub number-within : (low high : ℕ) (bytes : List ℕ) (m : ℕ) → number_between low high bytes ≡ Some m → (low ≤ m) × (m ≤ high)
number-within low high bytes m is = let found = then_some (between low high) (number_in bytes) m is in between-within low high found.0 m found.2

before-some : (o : Option ℕ) (rest : Option (List ℕ)) (ns : List ℕ) → before o rest ≡ Some ns → (n : ℕ) × (more : List ℕ) × (o ≡ Some n) × (rest ≡ Some more) × (n ∷ more ≡ ns)
before-some None rest ns is = cc
before-some (Some n) None ns is = cc
before-some (Some n) (Some more) ns is = (n, more, refl, refl, cc)

numbers-within : (high : ℕ) (fields : List (List ℕ)) (ns : List ℕ) → numbers_in high fields ≡ Some ns → (length ns ≡ length fields) × All (λ n. (1 ≤ n) × (n ≤ high)) ns
numbers-within high [] ns is = let none : [] ≡ ns = cc in rw (← none) (refl, All-nil (λ n. (1 ≤ n) × (n ≤ high)))
numbers-within high (f ∷ more) ns is =
    let parts = before-some (number_between 1 high f) (numbers_in high more) ns is in
    let rest = numbers-within high more parts.1 parts.3 in
    rw (← parts.4) (ap suc rest.0, All-cons (λ n. (1 ≤ n) × (n ≤ high)) parts.0 parts.1 (number-within 1 high f parts.0 parts.2) rest.1)

-- columns that a line names
pub record AreColumns (most high : ℕ) (columns : List ℕ) : Type 0 where
  pub some : 1 ≤ length columns
  pub few : length columns ≤ most
  pub each : All (λ n. (1 ≤ n) × (n ≤ high)) columns
  pub distinct : AllPairs (λ a b. a ≢ b) columns

any_here : (x : ℕ) (xs : List ℕ) (k d : ℕ) → list_any (λ y. y == x) xs ≡ false → k < length xs → get_or xs k d ≢ x
any_here x [] k d none lt same = absurd (omega arith)
any_here x (y ∷ ys) zero d none lt same =
    let here : (y == x) ≡ true = grind (arith, nat_tests) in
    let no : true ≡ false = rw here at none in cc
any_here x (y ∷ ys) (suc k) d none lt same =
    elim (y == x) as (λ b. (y == x) ≡ b → ⊥) [
      | true ↦ λ is. let no : true ≡ false = rw is at none in cc
      | false ↦ λ is. any_here x ys k d (rw is at none) (omega arith) same
    ] refl

pub not_true : (b : Bool) → not b ≡ true → b ≡ false
not_true true is = cc
not_true false is = refl

distinct-pairs : (xs : List ℕ) → is_distinct xs ≡ true → AllPairs (λ a b. a ≢ b) xs
distinct-pairs [] is i j d less lt same = absurd (omega arith)
distinct-pairs (x ∷ xs) is zero zero d less lt same = absurd (omega arith)
distinct-pairs (x ∷ xs) is zero (suc j) d less lt same =
    let parts = and_parts (not (list_any (λ y. y == x) xs)) (is_distinct xs) is in
    any_here x xs j d (not_true _ parts.0) (omega arith) (sym same)
distinct-pairs (x ∷ xs) is (suc i) zero d less lt same = absurd (omega arith)
distinct-pairs (x ∷ xs) is (suc i) (suc j) d less lt same =
    let parts = and_parts (not (list_any (λ y. y == x) xs)) (is_distinct xs) is in
    distinct-pairs xs parts.1 i j d (omega arith) (omega arith) same

pub columns-within : (first most high : ℕ) (line : List (List ℕ)) (columns : List ℕ) → columns_in first most high line ≡ Some columns → AreColumns most high columns
columns-within first most high line columns is =
    let chosen = if_some (nat_le (first + 1) (length line) && nat_le (length line) (first + most)) _ columns is in
    let tests = and_parts (nat_le (first + 1) (length line)) (nat_le (length line) (first + most)) chosen.0 in
    let low : nat_le (first + 1) (length line) ≡ true = tests.0 in
    let high_test : nat_le (length line) (first + most) ≡ true = tests.1 in
    let from : first + 1 ≤ length line = grind (arith, nat_tests) in
    let to : length line ≤ first + most = grind (arith, nat_tests) in
    let found = then_some if_distinct (numbers_in high (drop first line)) columns chosen.1 in
    let apart = if_some (is_distinct found.0) (Some found.0) columns found.2 in
    let same : found.0 ≡ columns = let some : Some found.0 ≡ Some columns = apart.1 in cc in
    let numbers = numbers-within high (drop first line) found.0 found.1 in
    let size = numbers.0 ∙ length-drop first line in
    rw (← same) (record {
      some = omega arith;
      few = omega arith;
      each = numbers.1;
      distinct = distinct-pairs found.0 apart.0;
    })
