-- What every entry of a map keeps as one more is put in.
use Rattle.std.proofs.Common.{◌≡◌, ◌≢◌, ◌⊎◌, ⊎_elim, ℕ, ◌<◌, List, [], ◌∷◌, ◌++◌, length, set, slice_get, Bool, true, false, nat_eq, Option, Some, None, refl, sym, subst, ◌∙◌, arith}
use Rattle.std.proofs.lemmas.Bool.{cases_order}
use Rattle.fill_arena.proofs.Lists.{get_pushed}
use Rattle.fill_doubt.proofs.Tables.{set_same, set_other}
use Rattle.std.specs.Option.{IfSome, option_copied}
use Rattle.std.proofs.Common.{Bor}
use Rattle.std.proofs.lemmas.Bool.Decides.{nat_tests}

same_number : (s q : ℕ) → nat_eq s q ≡ true → s ≡ q
same_number s q h = grind (arith, nat_tests)

pub put_right : {X : Type 0} (f g : ℕ → Option X) (P : ℕ → X → Type 0) (s : ℕ) (x : X) → g s ≡ Some x → ((q : ℕ) → nat_eq s q ≡ false → g q ≡ f q) →
    ((q : ℕ) (y : X) → f q ≡ Some y → P q y) → P s x → (q : ℕ) (y : X) → g q ≡ Some y → P q y
put_right {X} f g P s x here others old new q y h = cases (nat_eq s q) refl
  where
    cases : (b : Bool) → nat_eq s q ≡ b → P q y
    cases true e =
        let same : s ≡ q = same_number s q e in
        let there : g s ≡ Some y = subst (λ n. g n ≡ Some y) (sym same) h in
        let one : x ≡ y = cc in
        subst (λ n. P n y) same (subst (λ z. P s z) one new)
    cases false e = old q y (sym (others q e) ∙ h)

pub found_right : {X : Type 0} (P : X → Type 0) (o : Option (Bor X)) (q : Option X) → option_copied o ≡ q → ((y : X) → q ≡ Some y → P y) → IfSome o (λ x. P x.now)
found_right P None q e h = tt
found_right P (Some x) q e h = h x.now (sym e)

-- what each item of a list keeps as one more is put to it, or another in the place of one
pub pushed_right : {X : Type 0} (P : X → Type 0) (xs new : List X) (x : X) → new ≡ xs ++ x ∷ [] → P x → ((i : ℕ) (y : X) → slice_get xs i ≡ Some y → P y) → (i : ℕ) (y : X) → slice_get new i ≡ Some y → P y
pushed_right {X} P xs new x is here are i y at =
    ⊎_elim (λ l. are i y l.1) (λ r. subst (λ z. P z) r.1 here) (get_pushed xs x i y (subst (λ (zs : List X). slice_get zs i ≡ Some y) is at))

pub apart : (a b : ℕ) → (a < b) ⊎ (b < a) → a ≢ b
apart a b o e = ⊎_elim (λ l. omega arith) (λ l. omega arith) o

pub set_right : {X : Type 0} (P : X → Type 0) (xs : List X) (n : ℕ) (x : X) → n < length xs → P x → ((i : ℕ) (y : X) → slice_get xs i ≡ Some y → P y) → (i : ℕ) (y : X) → slice_get (set xs n x) i ≡ Some y → P y
set_right {X} P xs n x within here are i y at = ⊎_elim
    (λ same.
    let there : slice_get (set xs n x) n ≡ Some y = subst (λ m. slice_get (set xs n x) m ≡ Some y) same at in
    let e : x ≡ y = (let q : Some x ≡ Some y = sym (set_same xs n x within) ∙ there in cc) in
    subst (λ z. P z) e here)
    (λ o. are i y (sym (set_other xs n i x (apart i n o)) ∙ at)) (cases_order i n)
