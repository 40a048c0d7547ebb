-- The plain decimal of a number, and the number that it spells.
use Rattle.std.proofs.Common.{◌≡◌, ℕ, ◌<◌, ◌^◌, List, Some, None, Bool, true, false, refl, ap, ◌∙◌, arith, subst}
use Rattle.std.specs.Prelude.{nat_lt, if◌then◌else◌, IsUtf8}
use Rattle.std.specs.Fmt.{decimal}
use Rattle.std.specs.Str.{bytes_eq}
use Rattle.std.specs.Str.Parse.{digits_value}
use Rattle.std.proofs.lemmas.Bool.{and_parts, and_from}
use Rattle.std.proofs.lemmas.Bool.Decides.{Decides-ltb}
use Rattle.std.proofs.lemmas.Fmt.{decimal_is_IsNumeral, IsAscii-decimal}
use Rattle.std.proofs.lemmas.Slice.Eq.{bytes_eq-Decides}
use Rattle.std.proofs.lemmas.Str.{IsUtf8-from_ascii}
use Rattle.fill_numbers.specs.Number.{is_number, number_in}

-- a plain decimal is text
pub decimal_text : (n : ℕ) (bytes : List ℕ) → n < 2 ^ 32 → decimal n ≡ bytes → IsUtf8 bytes
decimal_text n bytes lt e = subst IsUtf8 e (IsUtf8-from_ascii (decimal n) (IsAscii-decimal n (omega arith)))

value_of_decimal : (n : ℕ) → n < 2 ^ 32 → digits_value 10 (decimal n) ≡ n
value_of_decimal n lt = (decimal_is_IsNumeral n (omega arith)).1

is_number_decimal : (n : ℕ) → n < 2 ^ 32 → is_number (decimal n) ≡ true
is_number_decimal n lt =
    let v = value_of_decimal n lt in
    let small : nat_lt (digits_value 10 (decimal n)) (2 ^ 32) ≡ true = (Decides-ltb (digits_value 10 (decimal n)) (2 ^ 32)).1 (omega arith) in
    let same : bytes_eq (decimal (digits_value 10 (decimal n))) (decimal n) ≡ true = (bytes_eq-Decides (decimal (digits_value 10 (decimal n))) (decimal n)).1 (ap decimal v) in
    and_from _ _ small same

chosen : (b : Bool) (n : ℕ) → b ≡ true → (if b then Some n else None) ≡ Some n
chosen true n h = refl
chosen false n h = cc

refused : (b : Bool) (n : ℕ) → (b ≡ true → ⊥) → (if b then Some n else None) ≡ None
refused true n h = absurd (h refl)
refused false n h = refl

-- the number of a plain decimal
pub number_of_decimal : (n : ℕ) (bytes : List ℕ) → n < 2 ^ 32 → decimal n ≡ bytes → number_in bytes ≡ Some n
number_of_decimal n bytes lt e =
    subst (λ (b : List ℕ). number_in b ≡ Some n) e
    (chosen (is_number (decimal n)) (digits_value 10 (decimal n)) (is_number_decimal n lt) ∙ ap Some (value_of_decimal n lt))

-- bytes that are no plain decimal have no number
pub number_of_others : (bytes : List ℕ) → ((n : ℕ) → n < 2 ^ 32 → decimal n ≡ bytes → ⊥) → number_in bytes ≡ None
number_of_others bytes none = refused (is_number bytes) (digits_value 10 bytes) (λ h.
    let parts = and_parts (nat_lt (digits_value 10 bytes) (2 ^ 32)) (bytes_eq (decimal (digits_value 10 bytes)) bytes) h in
    none (digits_value 10 bytes) ((Decides-ltb (digits_value 10 bytes) (2 ^ 32)).0 parts.0) ((bytes_eq-Decides (decimal (digits_value 10 bytes)) bytes).0 parts.1))
