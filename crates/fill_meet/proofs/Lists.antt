-- Items of lists.
use Rattle.std.proofs.Common.{◌≡◌, ℕ, zero, suc, ◌+◌, ◌<◌, ◌≤◌, ◌⊎◌, inl, inr, List, [], ◌∷◌, ◌++◌, length, get_or, Some, slice_get, refl, sym, ap, ◌∙◌, subst, arith}
use Rattle.std.proofs.lemmas.Bool.{cases_lt}
use Rattle.std.proofs.lemmas.Option.{slice_get_within, slice_get_read}
use Rattle.fill_arena.specs.Contents.{In, SomeIn, Extends}
use Rattle.fill_arena.specs.declared.entry.Entry.{Entry}
use Rattle.fill_arena.proofs.Lists.{get_left, get_last, get_pushed}

pub here : {A : Type 0} (xs : List A) (i : ℕ) (x : A) → i < length xs → x ≡ get_or xs i x → slice_get xs i ≡ Some x
here xs i x lt is = slice_get_read xs (length xs) i x refl lt is

pub same_value : {A : Type 0} (xs : List A) (i j : ℕ) (x y : A) → i ≡ j → slice_get xs i ≡ Some x → slice_get xs j ≡ Some y → x ≡ y
same_value xs i j x y e a b =
    let p : Some x ≡ Some y = sym a ∙ subst (λ n. slice_get xs n ≡ Some y) (sym e) b in
    cc

pub in_empty : {A : Type 0} (x : A) → In x [] → ⊥
in_empty x h = let e = h.1 in cc

pub get_empty : {A : Type 0} (k : ℕ) (x : A) (xs : List A) → xs ≡ [] → slice_get xs k ≡ Some x → ⊥
get_empty k x xs e h = in_empty x (k, subst (λ l. slice_get l k ≡ Some x) e h)

pub in_pushed : {A : Type 0} (xs : List A) (y x : A) → In x (xs ++ y ∷ []) → In x xs ⊎ (y ≡ x)
in_pushed xs y x h = elim (get_pushed xs y h.0 x h.1) [ inl a ↦ inl (h.0, a.1) | inr b ↦ inr b.1 ]

pub in_last : {A : Type 0} (xs : List A) (y : A) → In y (xs ++ y ∷ [])
in_last xs y = (length xs, get_last xs y)

pub in_more : {A : Type 0} (xs : List A) (y x : A) → In x xs → In x (xs ++ y ∷ [])
in_more xs y x h = (h.0, get_left xs (y ∷ []) h.0 (slice_get_within xs h.0 x h.1) ∙ h.1)

pub some_more : {A : Type 0} (P : A → Type 0) (xs : List A) (y : A) → SomeIn P xs → SomeIn P (xs ++ y ∷ [])
some_more P xs y h = (h.0, in_more xs y h.0 h.1, h.2)

pub some_first : {A : Type 0} (xs : List A) → (length xs ≡ 0 → ⊥) → (x : A) × In x xs
some_first [] h = absurd (h refl)
some_first (x ∷ xs) h = (x, (0, refl))

pub is_empty : {A : Type 0} (xs : List A) → length xs ≡ 0 → xs ≡ []
is_empty [] h = refl
is_empty (x ∷ xs) h = absurd (omega arith)

pub positive : (n : ℕ) → (n ≡ 0 → ⊥) → 0 < n
positive zero h = absurd (h refl)
positive (suc n) h = omega arith

pub length_pushed : {A : Type 0} (zs more : List A) (z : A) (i : ℕ) → more ≡ zs ++ z ∷ [] → length zs ≡ i → length more ≡ i + 1
length_pushed zs more z i e h = ap length e ∙ longer zs z i h where
  longer : {A : Type 0} (zs : List A) (z : A) (i : ℕ) → length zs ≡ i → length (zs ++ z ∷ []) ≡ i + 1
  longer [] z i h = omega arith
  longer (x ∷ zs) z i h = let r = longer zs z (length zs) refl in omega arith

-- an item at a place of a list, where another of its length has one
pub get_there_too : {A B : Type 0} (xs : List A) (ys : List B) (k : ℕ) (x : A) → length ys ≡ length xs → slice_get xs k ≡ Some x → (y : B) × (slice_get ys k ≡ Some y)
get_there_too [] ys k x e h = absurd cc
get_there_too (u ∷ xs) [] k x e h = absurd (omega arith)
get_there_too (u ∷ xs) (v ∷ ys) zero x e h = (v, refl)
get_there_too (u ∷ xs) (v ∷ ys) (suc k) x e h = get_there_too xs ys k x (omega arith) h

pub extends_length : (c d : List Entry) → Extends c d → length c ≤ length d
extends_length [] d f = omega arith
extends_length (x ∷ c) [] f = absurd (let h = f 0 x refl in cc)
extends_length (x ∷ c) (y ∷ d) f = let r = extends_length c d (λ n e h. f (suc n) e h) in omega arith

-- each item before a place has the property
pub record AllBelow {A : Type 0} (P : A → Type 0) (xs : List A) (i : ℕ) : Type 0 where
  pub all : (k : ℕ) (x : A) → k < i → slice_get xs k ≡ Some x → P x

pub all_start : {A : Type 0} (P : A → Type 0) (xs : List A) → AllBelow P xs 0
all_start P xs = record { all = λ k x h. absurd (omega arith) }

pub all_more : {A : Type 0} (P : A → Type 0) (xs : List A) (i : ℕ) (x : A) → slice_get xs i ≡ Some x → AllBelow P xs i → P x → AllBelow P xs (i + 1)
all_more P xs i x h s p = record {
  all = λ k y l g. elim (cases_lt k i) [
    | inl a ↦ s.all k y a g
    | inr a ↦ subst P (same_value xs i k x y (omega arith) h g) p
  ];
}

pub all_end : {A : Type 0} (P : A → Type 0) (xs : List A) (i : ℕ) → length xs ≤ i → AllBelow P xs i → (k : ℕ) (x : A) → slice_get xs k ≡ Some x → P x
all_end P xs i h s k x g = let w = slice_get_within xs k x g in s.all k x (omega arith) g

pub all_map : {A : Type 0} (P Q : A → Type 0) (xs : List A) (i : ℕ) → ((x : A) → P x → Q x) → AllBelow P xs i → AllBelow Q xs i
all_map P Q xs i f s = record { all = λ k x lt at. f x (s.all k x lt at) }
