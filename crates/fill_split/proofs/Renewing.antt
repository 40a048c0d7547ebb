-- the first branches have other values, and the rest are as they were
use Rattle.std.proofs.Common.{◌≡◌, ℕ, zero, suc, ◌+◌, ◌≤◌, List, [], ◌∷◌, length, set, Some, refl, sym, subst, arith}
use Rattle.std.specs.Prelude.{slice_get}
use Rattle.std.specs.List.{AllZip}
use Rattle.fill_split.specs.declared.folds.Fold.{Fold}
use Rattle.fill_split.specs.Renewal.{IsRenewedBranch}

abbrev pub RenewedTo : {K : Type 0} → List K → ℕ → List (Fold K) → List (Fold K) → Type 0
RenewedTo ks zero before now = now ≡ before
RenewedTo ks (suc i) [] now = now ≡ []
RenewedTo ks (suc i) (b ∷ bs) [] = ⊥
RenewedTo ks (suc i) (b ∷ bs) (n ∷ ns) = IsRenewedBranch ks b n × RenewedTo ks i bs ns

-- one branch more
renewed_next : {K : Type 0} (ks : List K) (i : ℕ) (before now : List (Fold K)) (f g : Fold K) → RenewedTo ks i before now → slice_get now i ≡ Some f → IsRenewedBranch ks f g → RenewedTo ks (suc i) before (set now i g)
renewed_next {K} ks zero [] now f g r at s = let P : List (Fold K) → Type 0 = λ l. slice_get l 0 ≡ Some f in let h = subst P r at in absurd cc
renewed_next {K} ks zero (b ∷ bs) now f g r at s =
    let P : List (Fold K) → Type 0 = λ l. slice_get l 0 ≡ Some f in
    let h = subst P r at in
    let e : f ≡ b = cc in
    subst (λ l. RenewedTo ks 1 (b ∷ bs) (set l 0 g)) (sym r) (subst (λ v. IsRenewedBranch ks v g) e s, refl)
renewed_next {K} ks (suc i) [] now f g r at s = let P : List (Fold K) → Type 0 = λ l. slice_get l (suc i) ≡ Some f in let h = subst P r at in absurd cc
renewed_next ks (suc i) (b ∷ bs) [] f g r at s = absurd r
renewed_next ks (suc i) (b ∷ bs) (n ∷ ns) f g r at s = (r.0, renewed_next ks i bs ns f g r.1 at s)

pub renewed_more : {K : Type 0} (ks : List K) (i : ℕ) (before now : List (Fold K)) (f g : Fold K) → RenewedTo ks i before now → slice_get now i ≡ Some f → IsRenewedBranch ks f g → RenewedTo ks (i + 1) before (set now i g)
renewed_more ks i before now f g r at s = let e : suc i ≡ i + 1 = omega arith in subst (λ n. RenewedTo ks n before (set now i g)) e (renewed_next ks i before now f g r at s)

pub renewed_end : {K : Type 0} (ks : List K) (i : ℕ) (before now : List (Fold K)) → length before ≤ i → RenewedTo ks i before now → AllZip (IsRenewedBranch ks) before now
renewed_end ks zero [] now h r = subst (λ l. AllZip (IsRenewedBranch ks) [] l) (sym r) tt
renewed_end ks zero (b ∷ bs) now h r = absurd (omega arith)
renewed_end ks (suc i) [] now h r = subst (λ l. AllZip (IsRenewedBranch ks) [] l) (sym r) tt
renewed_end ks (suc i) (b ∷ bs) [] h r = absurd r
renewed_end ks (suc i) (b ∷ bs) (n ∷ ns) h r = (r.0, renewed_end ks i bs ns (omega arith) r.1)
