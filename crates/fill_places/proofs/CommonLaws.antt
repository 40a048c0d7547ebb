-- Counts from the right are the rest of the whole count.
use Rattle.std.proofs.Common.{◌≡◌, ℕ, zero, suc, ◌+◌, ◌-◌, ◌<◌, ◌≤◌, ◌⊎◌, inl, inr, refl, sym, subst, arith}
use Rattle.std.proofs.lemmas.Bool.{cases_order}
use Rattle.fill_tokens.specs.Value.{IsCount}
use Rattle.fill_tokens.proofs.CountLaws.{count_unique, yes, no}

-- what is counted is known of each number
decided : (P : ℕ → Type 0) (n c : ℕ) → IsCount P n c → (k : ℕ) → k < n → P k ⊎ (P k → ⊥)
decided P zero c r k lt = absurd (omega arith)
decided P (suc n) c r k lt = elim (cases_order k n) [
  | inl e ↦ elim r [ inl y ↦ inl (subst P (sym e) y.2) | inr y ↦ inr (λ q. y.0 (subst P e q)) ]
  | inr o ↦ elim o [
    | inl l ↦ elim r [ inl y ↦ decided P n y.0 y.3 k l | inr y ↦ decided P n c y.1 k l ]
    | inr g ↦ absurd (omega arith)
  ]
]

-- of the numbers up to n, c in all, the last j have the property so often as the first others have not
pub count_back : (P : ℕ → Type 0) (n c : ℕ) → IsCount P (n + 1) c → (j m d : ℕ) → m + j ≡ n + 1 → IsCount P m d → (d ≤ c) × IsCount (λ i. P (n - i)) j (c - d)
count_back P n c all zero m d e r =
    let same : m ≡ n + 1 = omega arith in
    let f : c ≡ d = count_unique P (n + 1) c d all (subst (λ i. IsCount P i d) same r) in
    let z : 0 ≡ c - d = omega arith in
    (omega arith, subst (IsCount (λ i. P (n - i)) 0) z refl)
count_back P n c all (suc j) m d e r = elim (decided P (n + 1) c all m (omega arith)) [
  | inl h ↦
      (let rest = count_back P n c all j (m + 1) (d + 1) (omega arith) (yes P m d h r) in
      let here : m ≡ n - j = omega arith in
      let f : c - d ≡ (c - (d + 1)) + 1 = let u = rest.0 in omega arith in
      ((let u = rest.0 in omega arith), inl (c - (d + 1), f, subst P here h, rest.1)))
  | inr h ↦
      (let rest = count_back P n c all j (m + 1) d (omega arith) (no P m d h r) in
      let here : n - j ≡ m = omega arith in
      (rest.0, inr ((λ q. h (subst P here q)), rest.1)))
]

-- without the last number, which has the property
pub count_before : (P : ℕ → Type 0) (k c : ℕ) → P k → IsCount P (k + 1) c → (0 < c) × IsCount P k (c - 1)
count_before P k c h r =
    let e : k + 1 ≡ suc k = omega arith in
    elim (subst (λ m. IsCount P m c) e r) [
      | inl y ↦ (let u = y.1 in let f : y.0 ≡ c - 1 = omega arith in (omega arith, subst (IsCount P k) f y.3))
      | inr y ↦ absurd (y.0 h)
    ]
