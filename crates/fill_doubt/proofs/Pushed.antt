-- Rising lists of the numbers that have a property, with one number more.
use Rattle.std.proofs.Common.{◌≡◌, ◌↔◌, ℕ, ◌+◌, ◌<◌, ◌⊎◌, ⊎_elim, inl, inr, List, [], ◌∷◌, ◌++◌, length, get_or, sym, subst, arith}
use Rattle.std.specs.Prelude.{Contains}
use Rattle.std.specs.List.Sorted.{IsStrictlyIncreasing}
use Rattle.std.proofs.lemmas.Bool.{cases_order}
use Rattle.std.proofs.lemmas.List.{get_or_push, get_or_append_left, length-append}
use Rattle.std.proofs.lemmas.List.Elements.{Contains-get_or, Contains-append_left, Contains-push, Contains-push_cases}
use Rattle.fill_tokens.specs.Cuts.{IsRisingListOf}

rising_push : (ks : List ℕ) (n : ℕ) → IsStrictlyIncreasing ks → ((j : ℕ) → j < length ks → get_or ks j 0 < n) → IsStrictlyIncreasing (ks ++ n ∷ [])
rising_push ks n rising low k h =
    let size = length-append ks (n ∷ []) in
    elim (cases_order (k + 1) (length ks)) [
      | inl last ↦
          let at_last = get_or_push ks n 0 (k + 1) (sym last) in
          let before = get_or_append_left ks (n ∷ []) 0 k (omega arith) in
          let less = low k (omega arith) in
          omega arith
      | inr o ↦ elim o [
        | inl inside ↦
            let left = get_or_append_left ks (n ∷ []) 0 k (omega arith) in
            let right = get_or_append_left ks (n ∷ []) 0 (k + 1) inside in
            let less = rising k inside in
            omega arith
        | inr past ↦ absurd (omega arith)
      ]
    ]

pub rising_none : (P : ℕ → Type 0) → ((k : ℕ) → P k → ⊥) → IsRisingListOf P []
rising_none P none = record { rising = λ k h. absurd (omega arith); exact = λ k. ((λ h. absurd (omega (arith, h.1))), (λ h. absurd (none k h))) }

pub rising_same : (P Q : ℕ → Type 0) (ks : List ℕ) → IsRisingListOf P ks → ((k : ℕ) → P k ↔ Q k) → IsRisingListOf Q ks
rising_same P Q ks are same = record {
  rising = are.rising;
  exact = λ k. ((λ h. (same k).0 ((are.exact k).0 h)), (λ h. (are.exact k).1 ((same k).1 h)));
}

pub rising_more : (P Q : ℕ → Type 0) (ks : List ℕ) (n : ℕ) → IsRisingListOf P ks → ((k : ℕ) → P k → k < n) → ((k : ℕ) → Q k ↔ (P k ⊎ (k ≡ n))) → IsRisingListOf Q (ks ++ n ∷ [])
rising_more P Q ks n are low more = record {
  rising = rising_push ks n are.rising (λ j within. low (get_or ks j 0) ((are.exact (get_or ks j 0)).0 (Contains-get_or ks j 0 within)));
  exact = λ k. (
    (λ h. (more k).1 (⊎_elim (λ l. inl ((are.exact k).0 l)) (λ e. inr (sym e)) (Contains-push_cases ks n k h))),
    (λ q. ⊎_elim (λ p. Contains-append_left ks (n ∷ []) k ((are.exact k).1 p)) (λ e. subst (λ m. Contains (ks ++ n ∷ []) m) (sym e) (Contains-push ks n)) ((more k).0 q)),
  );
}
