-- Items of lists.
use Rattle.std.proofs.Common.{◌≡◌, ℕ, zero, suc, ◌+◌, ◌-◌, ◌<◌, ◌≤◌, ◌⊎◌, inl, inr, Bool, true, false, cond, List, [], ◌∷◌, ◌++◌, length, take, drop, get_or, Some, slice_get, slice_range, refl, sym, ap, ◌∙◌, subst, arith, length-drop, length-take}
use Rattle.std.specs.List.{filter}
use Rattle.std.proofs.lemmas.Option.{slice_get_within, slice_get_read}
use Rattle.fill_arena.specs.Contents.{In, SomeIn, EachIn, Extends}
use Rattle.fill_arena.specs.declared.entry.Entry.{Entry}
use Rattle.fill_arena.proofs.Lists.{get_left, get_last, get_pushed}

pub here : {A : Type 0} (xs : List A) (i : ℕ) (x : A) → i < length xs → x ≡ get_or xs i x → slice_get xs i ≡ Some x
here xs i x lt is = slice_get_read xs (length xs) i x refl lt is

pub same_value : {A : Type 0} (xs : List A) (i j : ℕ) (x y : A) → i ≡ j → slice_get xs i ≡ Some x → slice_get xs j ≡ Some y → x ≡ y
same_value xs i j x y e a b =
    let p : Some x ≡ Some y = sym a ∙ subst (λ n. slice_get xs n ≡ Some y) (sym e) b in
    cc

pub in_empty : {A : Type 0} (x : A) → In x [] → ⊥
in_empty x h = let e = h.1 in cc

pub in_pushed : {A : Type 0} (xs : List A) (y x : A) → In x (xs ++ y ∷ []) → In x xs ⊎ (y ≡ x)
in_pushed xs y x h = elim (get_pushed xs y h.0 x h.1) [ inl a ↦ inl (h.0, a.1) | inr b ↦ inr b.1 ]

pub in_last : {A : Type 0} (xs : List A) (y : A) → In y (xs ++ y ∷ [])
in_last xs y = (length xs, get_last xs y)

pub in_more : {A : Type 0} (xs : List A) (y x : A) → In x xs → In x (xs ++ y ∷ [])
in_more xs y x h = (h.0, get_left xs (y ∷ []) h.0 (slice_get_within xs h.0 x h.1) ∙ h.1)

pub some_more : {A : Type 0} (P : A → Type 0) (xs : List A) (y : A) → SomeIn P xs → SomeIn P (xs ++ y ∷ [])
some_more P xs y h = (h.0, in_more xs y h.0 h.1, h.2)

pub some_last : {A : Type 0} (P : A → Type 0) (xs : List A) (y : A) → P y → SomeIn P (xs ++ y ∷ [])
some_last P xs y h = (y, in_last xs y, h)

pub some_pushed : {A : Type 0} (P : A → Type 0) (xs : List A) (y : A) → SomeIn P (xs ++ y ∷ []) → SomeIn P xs ⊎ P y
some_pushed P xs y h = elim (in_pushed xs y h.0 h.1) [ inl a ↦ inl (h.0, a, h.2) | inr e ↦ inr (subst P (sym e) h.2) ]

pub some_empty : {A : Type 0} (P : A → Type 0) → SomeIn P [] → ⊥
some_empty P h = in_empty h.0 h.1

pub each_empty : {A : Type 0} (P : A → Type 0) → EachIn P []
each_empty P k x h = absurd (in_empty x (k, h))

pub each_pushed : {A : Type 0} (P : A → Type 0) (xs : List A) (y : A) → EachIn P xs → P y → EachIn P (xs ++ y ∷ [])
each_pushed P xs y f p k x h = elim (get_pushed xs y k x h) [ inl a ↦ f k x a.1 | inr b ↦ subst P b.1 p ]

pub some_first : {A : Type 0} (xs : List A) → (length xs ≡ 0 → ⊥) → (x : A) × In x xs
some_first [] h = absurd (h refl)
some_first (x ∷ xs) h = (x, (0, refl))

pub is_empty : {A : Type 0} (xs : List A) → length xs ≡ 0 → xs ≡ []
is_empty [] h = refl
is_empty (x ∷ xs) h = absurd (omega arith)

pub positive : (n : ℕ) → (n ≡ 0 → ⊥) → 0 < n
positive zero h = absurd (h refl)
positive (suc n) h = omega arith

pub extends_length : (c d : List Entry) → Extends c d → length c ≤ length d
extends_length [] d f = omega arith
extends_length (x ∷ c) [] f = absurd (let h = f 0 x refl in cc)
extends_length (x ∷ c) (y ∷ d) f = let r = extends_length c d (λ n e h. f (suc n) e h) in omega arith

-- an item of a list with one more in front
pub in_front : {A : Type 0} (y : A) (ys : List A) (x : A) → In x (y ∷ ys) → (y ≡ x) ⊎ In x ys
in_front y ys x h = at h.0 h.1 where
  at : (k : ℕ) → slice_get (y ∷ ys) k ≡ Some x → (y ≡ x) ⊎ In x ys
  at zero e = inl cc
  at (suc k) e = inr (k, e)

pub in_rest : {A : Type 0} (y : A) (ys : List A) (x : A) → In x ys → In x (y ∷ ys)
in_rest y ys x h = (suc h.0, h.1)

-- what a filter keeps
module _ {A : Type 0} (test : A → Bool) where
  was : (y : A) (ys zs : List A) (x : A) → (In x zs → In x ys × (test x ≡ true)) → (b : Bool) → test y ≡ b → In x (cond b (y ∷ zs) zs) → In x (y ∷ ys) × (test x ≡ true)
  was y ys zs x f true e k = elim (in_front y zs x k) [
    | inl same ↦ ((0, ap Some same), subst (λ z. test z ≡ true) same e)
    | inr rest ↦ let r = f rest in (in_rest y ys x r.0, r.1)
  ]
  was y ys zs x f false e k = let r = f k in (in_rest y ys x r.0, r.1)

  pub in_filtered : (xs : List A) (x : A) → In x (filter test xs) → In x xs × (test x ≡ true)
  in_filtered [] x h = absurd (in_empty x h)
  in_filtered (y ∷ ys) x h = was y ys (filter test ys) x (in_filtered ys x) (test y) refl h

  in_cond : (y : A) (ys : List A) (x : A) → test x ≡ true → (b : Bool) → test y ≡ b → (y ≡ x) ⊎ In x ys → In x (cond b (y ∷ ys) ys)
  in_cond y ys x e true t k = elim k [ inl same ↦ (0, ap Some same) | inr rest ↦ in_rest y ys x rest ]
  in_cond y ys x e false t k = elim k [ inl same ↦ (let other = subst (λ z. test z ≡ false) same t in absurd cc) | inr rest ↦ rest ]

  pub in_filter : (xs : List A) (x : A) → In x xs → test x ≡ true → In x (filter test xs)
  in_filter [] x h e = absurd (in_empty x h)
  in_filter (y ∷ ys) x h e = in_cond y (filter test ys) x e (test y) refl (elim (in_front y ys x h) [ inl same ↦ inl same | inr rest ↦ inr (in_filter ys x rest e) ])

-- a piece by its first place and its width
pub piece_range : {A : Type 0} (xs : List A) (from width : ℕ) → slice_range xs from (from + width) ≡ take width (drop from xs)
piece_range xs from width = let e : from + width - from ≡ width = omega arith in ap (λ n. take n (drop from xs)) e

-- the rest of a list, of which `done` items are taken, goes on or ends there
pub rest_goes_on : {A : Type 0} (xs ys : List A) (from done : ℕ) → xs ≡ ys → done < length (slice_range xs from (length xs)) → from + (done + 1) ≤ length ys
rest_goes_on xs ys from done e lt =
    let first = length-take (length xs - from) (drop from xs) in
    let second = length-drop from xs in
    let same = ap length e in
    omega arith

pub rest_ends : {A : Type 0} (xs ys : List A) (from done : ℕ) → xs ≡ ys → length (slice_range xs from (length xs)) ≤ done → length ys ≤ from + done
rest_ends xs ys from done e le =
    let first = length-take (length xs - from) (drop from xs) in
    let second = length-drop from xs in
    let same = ap length e in
    omega arith
