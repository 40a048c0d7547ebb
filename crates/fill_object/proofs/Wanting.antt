-- What is wanted of the rest of a program, after one more atom.
use Rattle.std.proofs.Common.{◌≡◌, ◌≢◌, ◌⊎◌, inl, inr, ◌↔◌, ℕ, zero, suc, ◌+◌, ◌<◌, List, [], ◌∷◌, ◌++◌, length, drop, Option, None, Some, length-drop, refl, sym, ap, subst, ◌∙◌, arith}
use Rattle.fill_tree.specs.Tree.{AtomTree, Atoms, end, more}
use Rattle.fill_tree.specs.Value.{IsValue, IsJoined, AtomIs, ProgramIs}
use Rattle.fill_eval.proofs.Values.{none_is, some_is, has, only, never, alike}
use Rattle.fill_object.specs.Pieces.{text_or_empty}
use Rattle.fill_object.specs.Wants.{Agrees, RestAgrees, wanted_first}
use Rattle.fill_object.specs.declared.row.OnRow.{OnRow}
use Rattle.fill_object.specs.declared.wanted.Wanted.{Wanted}
use Rattle.fill_object.specs.declared.wanted.Wanted.TheVariants.{Any, Other, Value}

drop_zero : {A : Type 0} (xs : List A) → drop 0 xs ≡ xs
drop_zero [] = refl
drop_zero (x ∷ xs) = refl

drop_nil : {A : Type 0} (n : ℕ) → drop {A = A} n [] ≡ []
drop_nil zero = refl
drop_nil (suc n) = refl

drop_more : {A : Type 0} (m n : ℕ) (xs : List A) → drop (m + n) xs ≡ drop n (drop m xs)
drop_more zero n xs = let e : 0 + n ≡ n = omega arith in ap (λ k. drop k xs) e ∙ ap (drop n) (sym (drop_zero xs))
drop_more (suc m) n [] = drop_nil (suc m + n) ∙ sym (drop_nil n)
drop_more (suc m) n (x ∷ xs) = let e : suc m + n ≡ suc (m + n) = omega arith in ap (λ k. drop k (x ∷ xs)) e ∙ drop_more m n xs

drop_front : {A : Type 0} (t r : List A) → drop (length t) (t ++ r) ≡ r
drop_front [] r = drop_zero r
drop_front (x ∷ t) r = drop_front t r

cancel : {A : Type 0} (t x y : List A) → t ++ x ≡ t ++ y → x ≡ y
cancel t x y e = sym (drop_front t x) ∙ ap (drop (length t)) e ∙ drop_front t y

-- the value that is the same for properties that hold together
pub agrees_alike : (answer : List ℕ) (w : Wanted) (P Q : List ℕ → Type 0) → ((v : List ℕ) → P v ↔ Q v) → Agrees answer w P → Agrees answer w Q
agrees_alike answer Any P Q same h = h
agrees_alike answer (Other from) P Q same h = alike P Q (Some (drop from answer)) same h
agrees_alike answer Value P Q same h = alike P Q None same h

-- an atom of a value, and then the rest
module _ (P Q : List ℕ → Type 0) where
  pub joined_none : IsValue P None → IsValue (IsJoined P Q) None
  joined_none is = none_is (IsJoined P Q) (λ v h. never P h.0 is h.2)

  module _ (t : List ℕ) (is : IsValue P (Some t)) where
    text_of : (v : List ℕ) → IsJoined P Q v → (y : List ℕ) × Q y × (v ≡ t ++ y)
    text_of v h = (h.1, h.3, h.4 ∙ ap (λ x. x ++ h.1) (sym (only P t h.0 is h.2)))

    pub none_joined : IsValue Q None → IsValue (IsJoined P Q) None
    none_joined none = none_is (IsJoined P Q) (λ v h. never Q h.1 none h.3)

    pub none_rest : IsValue (IsJoined P Q) None → IsValue Q None
    none_rest none = none_is Q (λ v h. never (IsJoined P Q) (t ++ v) none (t, v, has P t is, h, refl))

    pub some_joined : (r : List ℕ) → IsValue Q (Some r) → IsValue (IsJoined P Q) (Some (t ++ r))
    some_joined r rest = some_is (IsJoined P Q) (t ++ r) (t, r, has P t is, has Q r rest, refl)
        (λ v h. let u = text_of v h in ap (λ y. t ++ y) (only Q r u.0 rest u.1) ∙ sym u.2)

    pub some_rest : (r : List ℕ) → IsValue (IsJoined P Q) (Some (t ++ r)) → IsValue Q (Some r)
    some_rest r whole =
        let u = text_of (t ++ r) (has (IsJoined P Q) (t ++ r) whole) in
        let same : r ≡ u.0 = cancel t r u.0 u.2 in
        some_is Q r (subst Q (sym same) u.1) (λ v h. cancel t r v (only (IsJoined P Q) (t ++ r) (t ++ v) whole (t, v, has P t is, h, refl)))

    pub no_front : (w : List ℕ) → ((r : List ℕ) → w ≢ t ++ r) → ¬ (IsValue (IsJoined P Q) (Some w))
    no_front w apart whole = let u = text_of w (has (IsJoined P Q) w whole) in apart u.0 u.2

module _ (on : OnRow) (answer : List ℕ) (a : AtomTree) (q : Atoms) where
  abbrev First : List ℕ → Type 0
  First = AtomIs on.sheet.now on.tables.now on.row a

  abbrev RestGives : List ℕ → Type 0
  RestGives = ProgramIs on.sheet.now on.tables.now on.row q

  pub value_some : (t : List ℕ) → IsValue (AtomIs on.sheet.now on.tables.now on.row a) (Some t) → RestAgrees on answer Value q ↔ RestAgrees on answer Value (more a q)
  value_some t is = (none_joined First RestGives t is, none_rest First RestGives t is)

  pub other_none : (from : ℕ) → IsValue (AtomIs on.sheet.now on.tables.now on.row a) None → RestAgrees on answer Any q ↔ RestAgrees on answer (Other from) (more a q)
  other_none from is = ((λ h. absurd h), (λ h. absurd (never (IsJoined First RestGives) (drop from answer) (joined_none First RestGives is) (has (IsJoined First RestGives) (drop from answer) h))))

  pub other_some : (from : ℕ) (t : List ℕ) (next : Wanted) → IsValue (AtomIs on.sheet.now on.tables.now on.row a) (Some t) →
      ((rest : List ℕ) × (drop from answer ≡ t ++ rest) × (next ≡ Other (from + length t))) ⊎ (((rest : List ℕ) → drop from answer ≢ t ++ rest) × (next ≡ Any)) →
      RestAgrees on answer next q ↔ RestAgrees on answer (Other from) (more a q)
  other_some from t next is (inl h) =
      let later : drop (from + length t) answer ≡ h.0 = drop_more from (length t) answer ∙ ap (drop (length t)) h.1 ∙ drop_front t h.0 in
      subst (λ w. RestAgrees on answer w q ↔ RestAgrees on answer (Other from) (more a q)) (sym h.2) (
        (λ r. subst (λ w. IsValue (IsJoined First RestGives) (Some w)) (sym h.1) (some_joined First RestGives t is h.0 (subst (λ w. IsValue RestGives (Some w)) later r))),
        (λ r. subst (λ w. IsValue RestGives (Some w)) (sym later) (some_rest First RestGives t is h.0 (subst (λ w. IsValue (IsJoined First RestGives) (Some w)) h.1 r))),
      )
  other_some from t next is (inr h) =
      subst (λ w. RestAgrees on answer w q ↔ RestAgrees on answer (Other from) (more a q)) (sym h.1)
      ((λ r. absurd r), (λ r. absurd (no_front First RestGives t is (drop from answer) h.0 r)))

-- the end of a program
pub end_other : (on : OnRow) (answer : List ℕ) (from : ℕ) → from < length answer → ¬ (RestAgrees on answer (Other from) end)
end_other on answer from lt h =
    let nil : drop from answer ≡ [] = has (λ v. v ≡ []) (drop from answer) h in
    let none : length (drop from answer) ≡ 0 = ap length nil in
    absurd (omega (arith, length-drop from answer))

pub end_value : (on : OnRow) (answer : List ℕ) → ¬ (RestAgrees on answer Value end)
end_value on answer h = never (λ v. v ≡ []) [] h refl

-- a whole program
module _ (P : List ℕ → Type 0) where
  pub agrees_first : (told : Option (List ℕ)) → Agrees (text_or_empty told) (wanted_first told) P → IsValue P told
  agrees_first None h = h
  agrees_first (Some t) h = subst (λ w. IsValue P (Some w)) (drop_zero t) h

  pub first_agrees : (told : Option (List ℕ)) → IsValue P told → Agrees (text_or_empty told) (wanted_first told) P
  first_agrees None h = h
  first_agrees (Some t) h = subst (λ w. IsValue P (Some w)) (sym (drop_zero t)) h
