-- Values by cases, and what has a property one after the other.
use Rattle.std.proofs.Common.{◌≡◌, ℕ, ◌<◌, ◌↔◌, List, [], ◌∷◌, ◌++◌, length, Option, None, Some, length-append, refl, sym, ap, subst, ◌∙◌, arith}
use Rattle.std.proofs.lemmas.List.{append_assoc, append-nil}
use Rattle.fill_text.specs.Data.{SheetData, TableData}
use Rattle.fill_tree.specs.Tree.{AtomTree, Atoms, end, more}
use Rattle.fill_tree.specs.Value.{IsValue, IsHeadAndTail, AtomIs, ConditionIs, ConditionsAre, ProgramIs}

pub none_is : {A : Type 0} (P : A → Type 0) → ((v : A) → ¬ (P v)) → IsValue P None
none_is P never v = ((λ h. absurd (never v h)), (λ e. cc))

pub some_is : {A : Type 0} (P : A → Type 0) (x : A) → P x → ((v : A) → P v → x ≡ v) → IsValue P (Some x)
some_is {A} P x is one v = ((λ h. ap Some (one v h)), (λ e. let same : x ≡ v = cc in subst P same is))

pub has : {A : Type 0} (P : A → Type 0) (x : A) → IsValue P (Some x) → P x
has P x is = (is x).1 refl

pub only : {A : Type 0} (P : A → Type 0) (x v : A) → IsValue P (Some x) → P v → x ≡ v
only P x v is h = let e : Some x ≡ Some v = (is v).0 h in cc

pub never : {A : Type 0} (P : A → Type 0) (v : A) → IsValue P None → ¬ (P v)
never {A} P v is h = let e : ◌≡◌ {A = Option A} None (Some v) = (is v).0 h in cc

-- properties that hold together have the same value
pub alike : {A : Type 0} (P Q : A → Type 0) (r : Option A) → ((v : A) → P v ↔ Q v) → IsValue P r → IsValue Q r
alike P Q r same is v = ((λ h. (is v).0 ((same v).1 h)), (λ e. (same v).0 ((is v).1 e)))

-- a list has the whole property exactly where it is what is done and then a list that has the rest's property
abbrev pub IsAfter : {A : Type 0} → List A → (List A → Type 0) → (List A → Type 0) → Type 0
IsAfter {A} done R W = (vs : List A) → W vs ↔ ((ws : List A) × (vs ≡ done ++ ws) × R ws)

pub after_start : {A : Type 0} (W : List A → Type 0) → IsAfter [] W W
after_start W vs = ((λ h. (vs, refl, h)), (λ h. subst W (sym h.1) h.2))

module _ (sheet : SheetData) (tables : List TableData) (row : ℕ) where
  pub conditions_end : (done : List (List ℕ)) (W : List (List ℕ) → Type 0) → IsAfter done (ConditionsAre sheet tables row end) W → IsValue W (Some done)
  conditions_end done W after = some_is W done ((after done).1 ([], sym (append-nil done), refl)) (λ vs h.
      let found = (after vs).0 h in
      let nil : found.0 ≡ [] = found.2 in
      sym (found.1 ∙ ap (λ ws. done ++ ws) nil ∙ append-nil done))

  pub conditions_more : (done : List (List ℕ)) (W : List (List ℕ) → Type 0) (a : AtomTree) (rest : Atoms) (v : List ℕ) → IsAfter done (ConditionsAre sheet tables row (more a rest)) W
      → IsValue (ConditionIs sheet tables row a) (Some v) → IsAfter (done ++ v ∷ []) (ConditionsAre sheet tables row rest) W
  conditions_more done W a rest v after is vs = (
    (λ h.
        let found = (after vs).0 h in
        elim found.0 as (λ ws. vs ≡ done ++ ws → IsHeadAndTail (ConditionIs sheet tables row a) (ConditionsAre sheet tables row rest) ws
        → (us : List (List ℕ)) × (vs ≡ (done ++ v ∷ []) ++ us) × ConditionsAre sheet tables row rest us) [
          | [] ↦ λ e both. absurd both
          | w ∷ us ↦ λ e both.
              let same : v ≡ w = only (ConditionIs sheet tables row a) v w is both.0 in
              (us, subst (λ u. vs ≡ done ++ u ∷ us) (sym same) e ∙ sym (append_assoc done (v ∷ []) us), both.1)
        ] found.1 found.2),
    (λ h. (after vs).1 (v ∷ h.0, h.1 ∙ append_assoc done (v ∷ []) h.0, (has (ConditionIs sheet tables row a) v is, h.2))),
  )

  pub conditions_none : (done : List (List ℕ)) (W : List (List ℕ) → Type 0) (a : AtomTree) (rest : Atoms) → IsAfter done (ConditionsAre sheet tables row (more a rest)) W
      → IsValue (ConditionIs sheet tables row a) None → (vs : List (List ℕ)) → ¬ (W vs)
  conditions_none done W a rest after is vs h =
      let found = (after vs).0 h in
      elim found.0 as (λ ws. IsHeadAndTail (ConditionIs sheet tables row a) (ConditionsAre sheet tables row rest) ws → ⊥) [
        | [] ↦ λ both. both
        | w ∷ us ↦ λ both. never (ConditionIs sheet tables row a) w is both.0
      ] found.2

  pub conditions_longer : (done : List (List ℕ)) (W : List (List ℕ) → Type 0) (a : AtomTree) (rest : Atoms) → IsAfter done (ConditionsAre sheet tables row (more a rest)) W
      → (vs : List (List ℕ)) → W vs → length done < length vs
  conditions_longer done W a rest after vs h =
      let found = (after vs).0 h in
      elim found.0 as (λ ws. vs ≡ done ++ ws → IsHeadAndTail (ConditionIs sheet tables row a) (ConditionsAre sheet tables row rest) ws → length done < length vs) [
        | [] ↦ λ e both. absurd both
        | w ∷ us ↦ λ e both.
            let size = length-append done (w ∷ us) in
            let sizes : length vs ≡ length (done ++ w ∷ us) = ap length e in
            omega arith
      ] found.1 found.2

  pub program_end : (done : List ℕ) (W : List ℕ → Type 0) → IsAfter done (ProgramIs sheet tables row end) W → IsValue W (Some done)
  program_end done W after = some_is W done ((after done).1 ([], sym (append-nil done), refl)) (λ vs h.
      let found = (after vs).0 h in
      let nil : found.0 ≡ [] = found.2 in
      sym (found.1 ∙ ap (λ ws. done ++ ws) nil ∙ append-nil done))

  pub program_more : (done : List ℕ) (W : List ℕ → Type 0) (a : AtomTree) (rest : Atoms) (v : List ℕ) → IsAfter done (ProgramIs sheet tables row (more a rest)) W
      → IsValue (AtomIs sheet tables row a) (Some v) → IsAfter (done ++ v) (ProgramIs sheet tables row rest) W
  program_more done W a rest v after is vs = (
    (λ h.
        let found = (after vs).0 h in
        let both = found.2 in
        let same : v ≡ both.0 = only (AtomIs sheet tables row a) v both.0 is both.2 in
        (both.1, found.1 ∙ ap (λ ws. done ++ ws) (both.4 ∙ ap (λ x. x ++ both.1) (sym same)) ∙ sym (append_assoc done v both.1), both.3)),
    (λ h. (after vs).1 (v ++ h.0, h.1 ∙ append_assoc done v h.0, (v, h.0, has (AtomIs sheet tables row a) v is, h.2, refl))),
  )

  pub program_none : (done : List ℕ) (W : List ℕ → Type 0) (a : AtomTree) (rest : Atoms) → IsAfter done (ProgramIs sheet tables row (more a rest)) W
      → IsValue (AtomIs sheet tables row a) None → IsValue W None
  program_none done W a rest after is = none_is W (λ vs h.
      let found = (after vs).0 h in
      let both = found.2 in
      never (AtomIs sheet tables row a) both.0 is both.2)
