-- A place has at most one value in a text, which is a position of the text.
use Rattle.std.proofs.Common.{◌≡◌, ℕ, suc, ◌+◌, ◌-◌, ◌<◌, ◌≤◌, inl, inr, List, pos, negsuc, length, subst, arith}
use Rattle.std.proofs.lemmas.Bool.{cases_order}
use Rattle.fill_tokens.specs.Span.{IsCut}
use Rattle.fill_tokens.specs.Value.{IsCount, IsCutFromLeft, IsCutFromRight, HasValue}
use Rattle.fill_tokens.specs.declared.token.Token.{Token}
use Rattle.fill_tokens.specs.declared.place.Place.{Place}
use Rattle.fill_tokens.specs.declared.place.Place.TheVariants.{CPos, Pos}
use Rattle.fill_tokens.proofs.CountLaws.{count_mono}

-- a number that counts has a larger count up to it than each number before it
count_apart : (P : ℕ → Type 0) (k l c : ℕ) → P l → k < l → IsCount P (k + 1) c → IsCount P (l + 1) c → ⊥
count_apart P k l c h o a b =
    let next : l + 1 ≡ suc l = omega arith in
    elim (subst (λ m. IsCount P m c) next b) [
      | inl y ↦ let less = count_mono P (k + 1) l c y.0 (omega arith) a y.3 in omega arith
      | inr y ↦ y.0 h
    ]

one_of_count : (P : ℕ → Type 0) (k l c : ℕ) → P k → P l → IsCount P (k + 1) c → IsCount P (l + 1) c → k ≡ l
one_of_count P k l c h i a b = elim (cases_order k l) [
  | inl same ↦ same
  | inr o ↦ elim o [ inl less ↦ absurd (count_apart P k l c i less a b) | inr more ↦ absurd (count_apart P l k c h more b a) ]
]

one_from_left : (r s : List Token) (t : List ℕ) (c k l : ℕ) → IsCutFromLeft r s t c k → IsCutFromLeft r s t c l → k ≡ l
one_from_left r s t c k l a b = one_of_count (IsCut r s t) k l c a.1 b.1 a.2 b.2

one_from_right : (r s : List Token) (t : List ℕ) (c k l : ℕ) → IsCutFromRight r s t c k → IsCutFromRight r s t c l → k ≡ l
one_from_right r s t c k l a b =
    let n = length t in
    let back : k ≡ n - (n - k) = omega (arith, a.0) in
    let back' : l ≡ n - (n - l) = omega (arith, b.0) in
    let same = one_of_count (λ i. IsCut r s t (n - i)) (n - k) (n - l) c (subst (IsCut r s t) back a.1) (subst (IsCut r s t) back' b.1) a.2 b.2 in
    omega arith

pub one_value : (p : Place) (t : List ℕ) (k l : ℕ) → HasValue p t k → HasValue p t l → k ≡ l
one_value (CPos (pos j)) t k l a b = omega arith
one_value (CPos (negsuc j)) t k l a b = omega arith
one_value (Pos r s (pos c)) t k l a b = one_from_left r s t c k l a b
one_value (Pos r s (negsuc c)) t k l a b = one_from_right r s t (c + 1) k l a b

pub value_within : (p : Place) (t : List ℕ) (k : ℕ) → HasValue p t k → k ≤ length t
value_within (CPos (pos j)) t k a = omega arith
value_within (CPos (negsuc j)) t k a = omega arith
value_within (Pos r s (pos c)) t k a = a.0
value_within (Pos r s (negsuc c)) t k a = a.0
