-- What every entry of a map keeps as one more is put in.
use Rattle.std.proofs.Common.{◌≡◌, ℕ, Bool, true, false, nat_eq, Option, Some, None, refl, sym, subst, ◌∙◌, arith}
use Rattle.std.specs.Option.{IfSome, option_copied}
use Rattle.std.proofs.Common.{Bor}
use Rattle.std.proofs.lemmas.Bool.Decides.{nat_tests}

same_number : (s q : ℕ) → nat_eq s q ≡ true → s ≡ q
same_number s q h = grind (arith, nat_tests)

pub put_right : {X : Type 0} (f g : ℕ → Option X) (P : ℕ → X → Type 0) (s : ℕ) (x : X) → g s ≡ Some x → ((q : ℕ) → nat_eq s q ≡ false → g q ≡ f q) →
    ((q : ℕ) (y : X) → f q ≡ Some y → P q y) → P s x → (q : ℕ) (y : X) → g q ≡ Some y → P q y
put_right {X} f g P s x here others old new q y h = cases (nat_eq s q) refl
  where
    cases : (b : Bool) → nat_eq s q ≡ b → P q y
    cases true e =
        let same : s ≡ q = same_number s q e in
        let there : g s ≡ Some y = subst (λ n. g n ≡ Some y) (sym same) h in
        let one : x ≡ y = cc in
        subst (λ n. P n y) same (subst (λ z. P s z) one new)
    cases false e = old q y (sym (others q e) ∙ h)

pub found_right : {X : Type 0} (P : X → Type 0) (o : Option (Bor X)) (q : Option X) → option_copied o ≡ q → ((y : X) → q ≡ Some y → P y) → IfSome o (λ x. P x.now)
found_right P None q e h = tt
found_right P (Some x) q e h = h x.now (sym e)

pub copied_right : {X : Type 0} (P : X → Type 0) (o q : Option X) → o ≡ q → ((y : X) → q ≡ Some y → P y) → IfSome o P
copied_right P None q e h = tt
copied_right P (Some x) q e h = h x (sym e)
