-- Items of lists.
use Rattle.std.proofs.Common.{◌≡◌, ℕ, zero, suc, ◌+◌, ◌-◌, ◌<◌, ◌≤◌, ◌⊎◌, inl, inr, List, [], ◌∷◌, ◌++◌, length, map, drop, get_or, Option, None, Some, Result, Ok, Err, OnOk, slice_get, slice_set, slice_range, refl, sym, ap, ◌∙◌, subst, arith, length-drop, length-take}
use Rattle.std.proofs.lemmas.List.{take_all}
use Rattle.std.proofs.lemmas.Option.{slice_get_within, slice_get_read}
use Rattle.fill_arena.specs.Contents.{In, SomeIn, EachIn}
use Rattle.fill_arena.proofs.Lists.{get_left, get_last, get_pushed}

pub here : {A : Type 0} (xs : List A) (i : ℕ) (x : A) → i < length xs → x ≡ get_or xs i x → slice_get xs i ≡ Some x
here xs i x lt is = slice_get_read xs (length xs) i x refl lt is

pub same_at : {A : Type 0} (xs : List A) (i j : ℕ) (x y : A) → i ≡ j → slice_get xs i ≡ Some x → slice_get xs j ≡ Some y → x ≡ y
same_at xs i j x y e a b =
    let p : Some x ≡ Some y = sym a ∙ subst (λ n. slice_get xs n ≡ Some y) (sym e) b in
    cc

pub in_empty : {A : Type 0} (x : A) → In x [] → ⊥
in_empty x h = let e = h.1 in cc

pub in_pushed : {A : Type 0} (xs : List A) (y x : A) → In x (xs ++ y ∷ []) → In x xs ⊎ (y ≡ x)
in_pushed xs y x h = elim (get_pushed xs y h.0 x h.1) [ inl a ↦ inl (h.0, a.1) | inr b ↦ inr b.1 ]

pub in_last : {A : Type 0} (xs : List A) (y : A) → In y (xs ++ y ∷ [])
in_last xs y = (length xs, get_last xs y)

pub in_more : {A : Type 0} (xs : List A) (y x : A) → In x xs → In x (xs ++ y ∷ [])
in_more xs y x h = (h.0, get_left xs (y ∷ []) h.0 (slice_get_within xs h.0 x h.1) ∙ h.1)

pub some_more : {A : Type 0} (P : A → Type 0) (xs : List A) (y : A) → SomeIn P xs → SomeIn P (xs ++ y ∷ [])
some_more P xs y h = (h.0, in_more xs y h.0 h.1, h.2)

pub some_last : {A : Type 0} (P : A → Type 0) (xs : List A) (y : A) → P y → SomeIn P (xs ++ y ∷ [])
some_last P xs y h = (y, in_last xs y, h)

pub some_pushed : {A : Type 0} (P : A → Type 0) (xs : List A) (y : A) → SomeIn P (xs ++ y ∷ []) → SomeIn P xs ⊎ P y
some_pushed P xs y h = elim (in_pushed xs y h.0 h.1) [ inl a ↦ inl (h.0, a, h.2) | inr e ↦ inr (subst P (sym e) h.2) ]

pub some_empty : {A : Type 0} (P : A → Type 0) → SomeIn P [] → ⊥
some_empty P h = in_empty h.0 h.1

pub each_pushed : {A : Type 0} (P : A → Type 0) (xs : List A) (y : A) → EachIn P xs → P y → EachIn P (xs ++ y ∷ [])
each_pushed P xs y f p k x h = elim (get_pushed xs y k x h) [ inl a ↦ f k x a.1 | inr b ↦ subst P b.1 p ]

-- a list without items
pub none_in : {A : Type 0} (xs : List A) (x : A) → length xs ≡ 0 → In x xs → ⊥
none_in xs x e h = let lt = slice_get_within xs h.0 x h.1 in absurd (omega arith)

-- an option that is not some
pub is_none : {A : Type 0} (o : Option A) → ((x : A) → o ≡ Some x → ⊥) → o ≡ None
is_none None n = refl
is_none (Some x) n = absurd (n x refl)

-- an item was written in place of another
pub set_here : {A : Type 0} (xs : List A) (k : ℕ) (x y : A) → slice_get xs k ≡ Some x → slice_get (slice_set xs k y) k ≡ Some y
set_here [] k x y h = absurd (let e = h in cc)
set_here (z ∷ xs) zero x y h = refl
set_here (z ∷ xs) (suc k) x y h = set_here xs k x y h

pub set_other : {A : Type 0} (xs : List A) (k i : ℕ) (y : A) → (i ≡ k → ⊥) → slice_get (slice_set xs k y) i ≡ slice_get xs i
set_other [] k i y h = refl
set_other (z ∷ xs) zero zero y h = absurd (h refl)
set_other (z ∷ xs) zero (suc i) y h = refl
set_other (z ∷ xs) (suc k) zero y h = refl
set_other (z ∷ xs) (suc k) (suc i) y h = set_other xs k i y (λ e. h (ap suc e))

-- what a mapped list has at a place
pub mapped_at : {A B : Type 0} (f : A → B) (xs : List A) (k : ℕ) (x : A) → slice_get xs k ≡ Some x → slice_get (map f xs) k ≡ Some (f x)
mapped_at f [] k x h = absurd (let e = h in cc)
mapped_at f (z ∷ xs) zero x h = let e : z ≡ x = cc in ap (λ u. Some (f u)) e
mapped_at f (z ∷ xs) (suc k) x h = mapped_at f xs k x h

pub mapped_from : {A B : Type 0} (f : A → B) (xs : List A) (k : ℕ) (y : B) → slice_get (map f xs) k ≡ Some y → (x : A) × (slice_get xs k ≡ Some x) × (f x ≡ y)
mapped_from f [] k y h = absurd (let e = h in cc)
mapped_from f (z ∷ xs) zero y h = let e : f z ≡ y = cc in (z, refl, e)
mapped_from f (z ∷ xs) (suc k) y h = mapped_from f xs k y h

-- the whole range
pub whole_range : {A : Type 0} (xs : List A) (n : ℕ) → length xs ≤ n → slice_range xs 0 n ≡ xs
whole_range xs n h = take_all (n - 0) xs (omega arith)

pub range_length : {A : Type 0} (xs : List A) (a b : ℕ) → a ≤ b → b ≤ length xs → a + length (slice_range xs a b) ≡ b
range_length xs a b le within =
    let first = length-take (b - a) (drop a xs) in
    let second = length-drop a xs in
    omega arith

-- what follows from two facts of an answer
pub both_ok : {T E P Q R : Type 0} (r : Result T E) → (P → Q → R) → OnOk r P → OnOk r Q → OnOk r R
both_ok (Ok x) f p q = f p q
both_ok (Err e) f p q = tt
