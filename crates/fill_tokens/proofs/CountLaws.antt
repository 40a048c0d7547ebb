-- How many numbers have a property.
use Rattle.std.proofs.Common.{◌≡◌, ℕ, zero, suc, ◌+◌, ◌<◌, ◌≤◌, inl, inr, refl, sym, ◌∙◌, subst, arith}
use Rattle.std.proofs.lemmas.Bool.{cases_order}
use Rattle.fill_tokens.specs.Value.{IsCount}

-- one number more, which counts or does not
pub yes : (P : ℕ → Type 0) (n c : ℕ) → P n → IsCount P n c → IsCount P (n + 1) (c + 1)
yes P n c h r = let e : suc n ≡ n + 1 = omega arith in subst (λ m. IsCount P m (c + 1)) e (inl (c, refl, h, r))

pub no : (P : ℕ → Type 0) (n c : ℕ) → (P n → ⊥) → IsCount P n c → IsCount P (n + 1) c
no P n c h r = let e : suc n ≡ n + 1 = omega arith in subst (λ m. IsCount P m c) e (inr (h, r))

-- there is one count at most
pub count_unique : (P : ℕ → Type 0) (n c d : ℕ) → IsCount P n c → IsCount P n d → c ≡ d
count_unique P zero c d a b = a ∙ sym b
count_unique P (suc n) c d a b = elim a [
  | inl x ↦ elim b [
    | inl y ↦ let e = count_unique P n x.0 y.0 x.3 y.3 in cc
    | inr y ↦ absurd (y.0 x.2)
  ]
  | inr x ↦ elim b [
    | inl y ↦ absurd (x.0 y.2)
    | inr y ↦ count_unique P n c d x.1 y.1
  ]
]

-- a larger number has no smaller count
pub count_mono : (P : ℕ → Type 0) (m n c d : ℕ) → m ≤ n → IsCount P m c → IsCount P n d → c ≤ d
count_mono P zero n c d h a b = let e : c ≡ 0 = a in omega arith
count_mono P (suc m) zero c d h a b = absurd (omega arith)
count_mono P (suc m) (suc n) c d h a b = elim (cases_order m n) [
  | inl e ↦ let e2 : c ≡ d = count_unique P (suc n) c d (subst (λ i. IsCount P (suc i) c) e a) b in omega arith
  | inr o ↦ elim b [
    | inl y ↦ elim o [
      | inl l ↦ let r = count_mono P (suc m) n c y.0 (omega arith) a y.3 in omega arith
      | inr g ↦ absurd (omega arith)
    ]
    | inr y ↦ elim o [
      | inl l ↦ count_mono P (suc m) n c d (omega arith) a y.1
      | inr g ↦ absurd (omega arith)
    ]
  ]
]

-- the number itself counts
pub count_some : (P : ℕ → Type 0) (n c : ℕ) → P n → IsCount P (n + 1) c → 0 < c
count_some P n c h r = let e : n + 1 ≡ suc n = omega arith in elim (subst (λ m. IsCount P m c) e r) [
  | inl y ↦ omega arith
  | inr y ↦ absurd (y.0 h)
]

-- properties of the same numbers have the same counts
pub count_same : (P Q : ℕ → Type 0) (n c : ℕ) → ((i : ℕ) → P i → Q i) → ((i : ℕ) → Q i → P i) → IsCount P n c → IsCount Q n c
count_same P Q zero c f g r = r
count_same P Q (suc n) c f g r = elim r [
  | inl y ↦ inl (y.0, y.1, f n y.2, count_same P Q n y.0 f g y.3)
  | inr y ↦ inr (λ q. y.0 (g n q), count_same P Q n c f g y.1)
]
