-- Lists that are mapped or filtered, and what they contain.
use Rattle.std.proofs.Common.{◌≡◌, ℕ, zero, suc, ◌<◌, List, [], ◌∷◌, length, map, get_or, Bool, true, false, cond, Contains, refl, ap, subst, ◌∙◌, arith}
use Rattle.std.specs.List.{AllPairs, filter}
use Rattle.std.proofs.lemmas.List.{length-map, get_or-map}

pub contains_mapped : {A B : Type 0} (f : A → B) (xs : List A) (x : A) → Contains xs x → Contains (map f xs) (f x)
contains_mapped f xs x (i, lt, e) = (
  i,
  (let size = length-map xs f in omega arith),
  get_or-map f xs i x (f x) lt ∙ ap f e,
)

pub mapped_from : {A B : Type 0} (f : A → B) (xs : List A) (y : B) → Contains (map f xs) y → (x : A) × Contains xs x × (f x ≡ y)
mapped_from f [] y (i, lt, e) = absurd (omega arith)
mapped_from f (x ∷ xs) y (zero, lt, e) = (x, (zero, omega arith, refl), e)
mapped_from f (x ∷ xs) y (suc i, lt, e) =
    let rest = mapped_from f xs y (i, (omega arith), e) in
    let less = rest.1.1 in
    (rest.0, (suc rest.1.0, (omega arith), rest.1.2), rest.2)

pub filter_keeps : {A : Type 0} (p : A → Bool) (xs : List A) (x : A) → Contains xs x → p x ≡ true → Contains (filter p xs) x
filter_keeps p [] x (i, lt, e) holds = absurd (omega arith)
filter_keeps p (y ∷ ys) x (zero, lt, e) holds =
    let here : y ≡ x = e in
    let is : p y ≡ true = ap p here ∙ holds in
    rw is (zero, omega arith, here)
filter_keeps p (y ∷ ys) x (suc i, lt, e) holds =
    let rest = filter_keeps p ys x (i, (omega arith), e) holds in
    let less = rest.1 in
    elim (p y) as (λ b. Contains (cond b (y ∷ filter p ys) (filter p ys)) x) [ true ↦ (suc rest.0, (omega arith), rest.2) | false ↦ rest ]

pub filter_from : {A : Type 0} (p : A → Bool) (xs : List A) (x : A) → Contains (filter p xs) x → Contains xs x
filter_from p [] x (i, lt, e) = absurd (omega arith)
filter_from p (y ∷ ys) x c =
    elim (p y) as (λ b. Contains (cond b (y ∷ filter p ys) (filter p ys)) x → Contains (y ∷ ys) x) [
      | true ↦ λ (i, lt, e).
          elim i as (λ j. j < length (y ∷ filter p ys) → get_or (y ∷ filter p ys) j x ≡ x → Contains (y ∷ ys) x) [
            | zero ↦ λ _ here. (zero, omega arith, here)
            | suc j ↦ λ less at. let rest = filter_from p ys x (j, (omega arith), at) in let in' = rest.1 in (suc rest.0, (omega arith), rest.2)
          ] lt e
      | false ↦ λ h. let rest = filter_from p ys x h in let in' = rest.1 in (suc rest.0, (omega arith), rest.2)
    ] c

pub mapped_pairs : {A B : Type 0} (f : A → B) (R : B → B → Type 0) (xs : List A) → AllPairs R (map f xs) → AllPairs (λ x y. R (f x) (f y)) xs
mapped_pairs f R xs all i j d before within =
    let size = length-map xs f in
    let h = all i j (f d) before (omega arith) in
    let first = get_or-map f xs i d (f d) (omega arith) in
    let second = get_or-map f xs j d (f d) within in
    subst (λ y. R (f (get_or xs i d)) y) second (subst (λ x. R x (get_or (map f xs) j (f d))) first h)

-- lists whose items are mapped to the same
pub mapped_same : {A B : Type 0} (f : A → B) (xs ys : List A) → length ys ≡ length xs → ((i : ℕ) (d : A) → i < length xs → f (get_or ys i d) ≡ f (get_or xs i d)) → map f ys ≡ map f xs
mapped_same f [] [] size each = refl
mapped_same f [] (y ∷ ys) size each = absurd (omega arith)
mapped_same f (x ∷ xs) [] size each = absurd (omega arith)
mapped_same f (x ∷ xs) (y ∷ ys) size each =
    let head : f y ≡ f x = each zero x (omega arith) in
    let tail : map f ys ≡ map f xs = mapped_same f xs ys (omega arith) (λ i d l. each (suc i) d (omega arith)) in
    cc
