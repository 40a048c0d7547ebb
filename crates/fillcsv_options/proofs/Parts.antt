-- Parts of the words, and what they mean together.
use Rattle.std.proofs.Common.{◌≡◌, ◌∙◌, ◌<◌, ℕ, Bool, true, false, List, [], ◌∷◌, ◌++◌, length, map, Option, Some, None, ap, refl, sym, arith, nat_lt, option_map, unwrap_or}
use Rattle.std.specs.Borrow.{Bor}
use Rattle.std.specs.Prelude.{◌==◌, ◌||◌}
use Rattle.std.specs.List.{after_first, before_first, list_any, position_or_len}
use Rattle.std.proofs.lemmas.Bool.Decides.{nat_tests}
use Rattle.std.proofs.lemmas.List.{map-append}
use Rattle.clap.specs.Words.{Row, Text}
use Rattle.fillcsv_options.specs.declared.asked.Typed.{Typed}
use Rattle.fillcsv_options.specs.declared.refusal.Refusal.{Refusal}
use Rattle.fillcsv_options.specs.declared.refusal.Refusal.TheVariants.{Shown, Usage, NoMemory}
use Rattle.fillcsv_options.specs.Words.{ChosenData, IsRefusedBy, RefusesConflict, RefusesPart, Wrong, example_in, meaning_by, row_in, with_example, typed_data, typed_of}

-- wrong words are a part that means nothing
pub refused_part : {D : Type 0} (m : Option D) (why : Refusal) → m ≡ None → IsRefusedBy Wrong why → RefusesPart m why
refused_part m (Shown text) none is = cc
refused_part m (Usage text) none is = none
refused_part m NoMemory none is = tt

-- what is made of a part that means nothing
pub refused_whole : {D E : Type 0} (m : Option D) (n : Option E) (why : Refusal) → (m ≡ None → n ≡ None) → RefusesPart m why → RefusesPart n why
refused_whole m n (Shown text) f is = absurd is
refused_whole m n (Usage text) f is = f is
refused_whole m n NoMemory f is = tt

pub refused_words : (rows : List Row) (m : Option ChosenData) (why : Refusal) → RefusesPart m why → IsRefusedBy (meaning_by rows m) why
refused_words rows m (Shown text) is = absurd is
refused_words rows m (Usage text) is = ap (meaning_by rows) is
refused_words rows m NoMemory is = tt

-- the values of an option, or none
pub lists_now : (o : Option (Bor (List (Bor (List ℕ))))) (d : Bor (List (Bor (List ℕ)))) → d.now ≡ []
    → map (λ l. l.now) (unwrap_or o d).now ≡ unwrap_or (option_map (λ s. map (λ l. l.now) s.now) o) []
lists_now None d e = ap (map (λ l. l.now)) e
lists_now (Some v) d e = refl

-- ---- examples

pub rows_same : (row : ℕ) (examples : List Typed) → list_any (λ e. e.row == row) (map typed_data examples) ≡ list_any (λ e. e.row == row) examples
rows_same row [] = refl
rows_same row (e ∷ more) = ap (λ (b : Bool). (e.row == row) || b) (rows_same row more)

-- one more example, or a second one for a row
pub example_more : (xs ys : List Typed) (e : Typed) → list_any (λ x. x.row == e.row) xs ≡ false → ys ≡ xs ++ e ∷ []
    → with_example (map typed_data xs) (typed_data e) ≡ Some (map typed_data ys)
example_more xs ys e fresh put =
    let test : list_any (λ x. x.row == e.row) (map typed_data xs) ≡ false = rows_same e.row xs ∙ fresh in
    rw test (ap Some (sym (map-append typed_data xs (e ∷ [])) ∙ ap (map typed_data) (sym put)))

pub example_again : (xs : List Typed) (e : Typed) → list_any (λ x. x.row == e.row) xs ≡ true → with_example (map typed_data xs) (typed_data e) ≡ None
example_again xs e there =
    let test : list_any (λ x. x.row == e.row) (map typed_data xs) ≡ true = rows_same e.row xs ∙ there in
    rw test refl

-- a word without `=`
pub unsplit : (word : Text) → position_or_len (λ b. b == 61) word ≡ length word → example_in word ≡ None
unsplit word is =
    let test : nat_lt (position_or_len (λ b. b == 61) word) (length word) ≡ false = grind (arith, nat_tests) in
    rw test refl

-- a word with `=`, and the number in front of it
pub split : (word front back : Text) (row : Option ℕ) → position_or_len (λ b. b == 61) word < length word
    → front ≡ before_first (λ b. b == 61) word → back ≡ after_first (λ b. b == 61) word → row ≡ row_in front → example_in word ≡ typed_of back row
split word front back row inside first last is =
    let test : nat_lt (position_or_len (λ b. b == 61) word) (length word) ≡ true = grind (arith, nat_tests) in
    let number : row_in (before_first (λ b. b == 61) word) ≡ row = ap row_in (sym first) ∙ sym is in
    rw (test, number, ← last) refl

-- a test of mapped values
pub any_mapped : {A B : Type 0} (f : A → B) (P : B → Bool) (xs : List A) → list_any P (map f xs) ≡ list_any (λ x. P (f x)) xs
any_mapped f P [] = refl
any_mapped f P (x ∷ more) = ap (λ (b : Bool). P (f x) || b) (any_mapped f P more)

-- ---- options that do not go together

-- the refusal of the first conflict, or else that of the second, if there is one
pub first_conflict : (a b : Bool) (why : Refusal) → a ≡ true → IsRefusedBy Wrong why → RefusesConflict (a || b) (Some why)
first_conflict true b why is wrong = (refl, wrong)
first_conflict false b why is wrong = cc

pub second_conflict : (a b : Bool) (found : Option Refusal) → a ≡ false → RefusesConflict b found → RefusesConflict (a || b) found
second_conflict true b found is refuses = cc
second_conflict false b found is refuses = refuses

-- the first of two tests fails, and the second decides
pub second_decides : (a b r : Bool) → a ≡ false → r ≡ b → r ≡ (a || b)
second_decides true b r is same = cc
second_decides false b r is same = same
