-- The first item of a property is one, and where items of a list stand.
use Rattle.std.proofs.Common.{◌≡◌, ℕ, zero, suc, List, [], ◌∷◌, ◌++◌, length, map, set, Some, refl, ap, ◌∙◌, subst}
use Rattle.std.specs.Prelude.{slice_get, All, Contains}
use Rattle.std.proofs.lemmas.List.Elements.{All-head, All-tail}
use Rattle.fill_session.proofs.Picked.{below, here, map_at, read}

-- of a list the first item of a property is one, and its place too
pub first_is_one : {X : Type 0} (T : X → Type 0) (xs ys zs ws : List X) (b c : X) → xs ++ b ∷ zs ≡ ys ++ c ∷ ws → All (λ x. ¬ (T x)) xs → T b → All (λ x. ¬ (T x)) ys → T c
    → (length xs ≡ length ys) × (b ≡ c)
first_is_one T [] [] zs ws b c e p t q u = (refl, cc)
first_is_one {X} T [] (y ∷ ys) zs ws b c e p t q u = absurd (All-head (λ (x : X). ¬ (T x)) y ys q (let same : b ≡ y = cc in subst T same t))
first_is_one {X} T (x ∷ xs) [] zs ws b c e p t q u = absurd (All-head (λ (x : X). ¬ (T x)) x xs p (let same : c ≡ x = cc in subst T same u))
first_is_one {X} T (x ∷ xs) (y ∷ ys) zs ws b c e p t q u =
    let rest : xs ++ b ∷ zs ≡ ys ++ c ∷ ws = cc in
    let later = first_is_one T xs ys zs ws b c rest (All-tail (λ (x : X). ¬ (T x)) x xs p) t (All-tail (λ (x : X). ¬ (T x)) y ys q) u in
    (ap suc later.0, later.1)

-- a list contains what stands at a place of it
pub contains_from : {X : Type 0} (xs : List X) (k : ℕ) (x : X) → slice_get xs k ≡ Some x → Contains xs x
contains_from xs k x h = (k, below xs k x h, read xs k x x h)

pub contains_at : {X : Type 0} (xs : List X) (x : X) → Contains xs x → (k : ℕ) × (slice_get xs k ≡ Some x)
contains_at xs x c = (c.0, here xs c.0 x c.1 ∙ ap Some c.2)

pub contains_map : {X Y : Type 0} (f : X → Y) (xs : List X) (x : X) → Contains xs x → Contains (map f xs) (f x)
contains_map f xs x c = let at = contains_at xs x c in contains_from (map f xs) at.0 (f x) (map_at f xs at.0 x at.1)

-- what stands at a place that was written, and at another place
pub set_here : {X : Type 0} (xs : List X) (k : ℕ) (x v : X) → slice_get xs k ≡ Some x → slice_get (set xs k v) k ≡ Some v
set_here [] k x v h = absurd cc
set_here (a ∷ xs) zero x v h = refl
set_here (a ∷ xs) (suc k) x v h = set_here xs k x v h

pub set_there : {X : Type 0} (xs : List X) (j k : ℕ) (v : X) → (j ≡ k → ⊥) → slice_get (set xs k v) j ≡ slice_get xs j
set_there [] j k v h = refl
set_there (a ∷ xs) zero zero v h = absurd (h refl)
set_there (a ∷ xs) zero (suc k) v h = refl
set_there (a ∷ xs) (suc j) zero v h = refl
set_there (a ∷ xs) (suc j) (suc k) v h = set_there xs j k v (λ e. h (ap suc e))
