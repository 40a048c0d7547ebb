-- Lists in order, put together.
use Rattle.std.proofs.Common.{◌≡◌, zero, suc, ◌⊎◌, inl, inr, List, [], ◌∷◌, ◌++◌, get_or, refl, sym, ap, ◌∙◌, subst, arith, append_assoc}
use Rattle.std.specs.Prelude.{Contains}
use Rattle.std.specs.List.{AllPairs}
use Rattle.std.specs.declared.cmp.Ordering.{Ordering}
use Rattle.std.specs.declared.cmp.Ordering.TheVariants.{Less}
use Rattle.std.proofs.lemmas.List.{append-nil}
use Rattle.std.proofs.lemmas.List.Elements.{All-append, Contains-append_left, Contains-append_right, Contains-append_cases, Contains-get_or}
use Rattle.std.proofs.lemmas.List.Kept.{AllPairs-cons}
use Rattle.fill_text.specs.Lists.{Lists, Adds}

pairs_append : {A : Type 0} (R : A → A → Type 0) (xs ys : List A) → AllPairs R xs → AllPairs R ys →
    ((x y : A) → Contains xs x → Contains ys y → R x y) → AllPairs R (xs ++ ys)
pairs_append R [] ys a b h = b
pairs_append R (x ∷ xs) ys a b h =
    AllPairs-cons R x (xs ++ ys)
    (All-append (R x) xs ys (λ k d l. a zero (suc k) d (omega arith) (omega arith)) (λ k d l. h x (get_or ys k d) (zero, omega arith, refl) (Contains-get_or ys k d l)))
    (pairs_append R xs ys (λ i j d l w. a (suc i) (suc j) d (omega arith) (omega arith)) b (λ y z c e. h y z (suc c.0, (let w = c.1 in omega arith), c.2) e))

none_in : {A : Type 0} (x : A) → Contains {X = A} [] x → ⊥
none_in x h = let w = h.1 in omega arith

one_in : {A : Type 0} (x y : A) → Contains (x ∷ []) y → x ≡ y
one_in x y (zero, w, e) = e
one_in x y (suc i, w, e) = absurd (omega arith)

pub lists_none : {A : Type 0} (cmp : A → A → Ordering) (Q : A → Type 0) → ((x : A) → Q x → ⊥) → Lists cmp Q []
lists_none cmp Q none = record { rising = λ i j d l w. absurd (omega arith); exact = λ x. (λ c. absurd (none_in x c), λ q. absurd (none x q)) }

pub lists_one : {A : Type 0} (cmp : A → A → Ordering) (Q : A → Type 0) (x : A) → Q x → ((y : A) → Q y → y ≡ x) → Lists cmp Q (x ∷ [])
lists_one cmp Q x q only = record {
  rising = λ i j d l w. absurd (omega arith);
  exact = λ y. (λ c. subst Q (one_in x y c) q, λ h. (zero, omega arith, sym (only y h)));
}

pub lists_append : {A : Type 0} (cmp : A → A → Ordering) (Q R S : A → Type 0) (xs ys : List A) → Lists cmp Q xs → Lists cmp R ys →
    ((x y : A) → Q x → R y → cmp x y ≡ Less) →
    ((x : A) → S x → Q x ⊎ R x) → ((x : A) → Q x → S x) → ((x : A) → R x → S x) → Lists cmp S (xs ++ ys)
lists_append cmp Q R S xs ys a b less split left right = record {
  rising = pairs_append (λ x y. cmp x y ≡ Less) xs ys a.rising b.rising (λ x y c d. less x y ((a.exact x).0 c) ((b.exact y).0 d));
  exact = λ x. (
    λ c. elim (Contains-append_cases xs ys x c) [ inl l ↦ left x ((a.exact x).0 l) | inr r ↦ right x ((b.exact x).0 r) ],
    λ s. elim (split x s) [ inl q ↦ Contains-append_left xs ys x ((a.exact x).1 q) | inr r ↦ Contains-append_right xs ys x ((b.exact x).1 r) ],
  );
}

pub lists_same : {A : Type 0} (cmp : A → A → Ordering) (Q R : A → Type 0) (xs : List A) → ((x : A) → Q x → R x) → ((x : A) → R x → Q x) → Lists cmp Q xs → Lists cmp R xs
lists_same cmp Q R xs f g a = record { rising = a.rising; exact = λ x. (λ c. f x ((a.exact x).0 c), λ r. (a.exact x).1 (g x r)) }

pub adds_none : {A : Type 0} (cmp : A → A → Ordering) (Q : A → Type 0) (old : List A) → ((x : A) → Q x → ⊥) → Adds cmp old old Q
adds_none cmp Q old none = ([], sym (append-nil old), lists_none cmp Q none)

pub adds_one : {A : Type 0} (cmp : A → A → Ordering) (Q : A → Type 0) (old new : List A) (x : A) → new ≡ old ++ x ∷ [] → Q x → ((y : A) → Q y → y ≡ x) → Adds cmp old new Q
adds_one cmp Q old new x e q only = (x ∷ [], e, lists_one cmp Q x q only)

pub adds_same : {A : Type 0} (cmp : A → A → Ordering) (Q R : A → Type 0) (old new : List A) → ((x : A) → Q x → R x) → ((x : A) → R x → Q x) → Adds cmp old new Q → Adds cmp old new R
adds_same cmp Q R old new f g a = (a.0, a.1, lists_same cmp Q R a.0 f g a.2)

pub adds_then : {A : Type 0} (cmp : A → A → Ordering) (Q R S : A → Type 0) (old mid new : List A) → Adds cmp old mid Q → Adds cmp mid new R →
    ((x y : A) → Q x → R y → cmp x y ≡ Less) →
    ((x : A) → S x → Q x ⊎ R x) → ((x : A) → Q x → S x) → ((x : A) → R x → S x) → Adds cmp old new S
adds_then cmp Q R S old mid new a b less split left right = (
  a.0 ++ b.0,
  b.1 ∙ ap (λ z. z ++ b.0) a.1 ∙ append_assoc old a.0 b.0,
  lists_append cmp Q R S a.0 b.0 a.2 b.2 less split left right,
)

-- a list that was empty before
pub adds_all : {A : Type 0} (cmp : A → A → Ordering) (Q : A → Type 0) (old new : List A) → old ≡ [] → Adds cmp old new Q → Lists cmp Q new
adds_all cmp Q old new e a = subst (Lists cmp Q) (sym (a.1 ∙ ap (λ z. z ++ a.0) e)) a.2
