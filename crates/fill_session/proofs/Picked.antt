-- The rows of the examples that folds hold, fold by fold.
use Rattle.std.proofs.Common.{◌≡◌, ℕ, zero, suc, ◌+◌, ◌<◌, ◌≤◌, List, [], ◌∷◌, ◌++◌, length, take, get_or, map, Some, refl, sym, ap, ◌∙◌, append_assoc, arith}
use Rattle.std.specs.Prelude.{slice_get}
use Rattle.std.specs.List.{flat_map}
use Rattle.std.proofs.lemmas.List.{take_all}
use Rattle.fill_split.specs.declared.folds.Fold.{Fold}
use Rattle.fill_split.proofs.Zips.{zip_some, zip_lengths, take_next}
use Rattle.fill_tree.specs.declared.user.Example.{Example}
use Rattle.fill_session.specs.Branches.{all_rows}
use Rattle.fill_session.specs.Edits.{rows_of}
use Rattle.fill_session.specs.Folded.{ArePicked, ArePickedAll}

pub below : {X : Type 0} (xs : List X) (i : ℕ) (x : X) → slice_get xs i ≡ Some x → i < length xs
below [] i x h = absurd cc
below (a ∷ xs) zero x h = omega arith
below (a ∷ xs) (suc i) x h = let rest = below xs i x h in omega arith

pub here : {X : Type 0} (xs : List X) (i : ℕ) (d : X) → i < length xs → slice_get xs i ≡ Some (get_or xs i d)
here [] i d h = absurd (omega arith)
here (a ∷ xs) zero d h = refl
here (a ∷ xs) (suc i) d h = here xs i d (omega arith)

pub read : {X : Type 0} (xs : List X) (i : ℕ) (x d : X) → slice_get xs i ≡ Some x → get_or xs i d ≡ x
read [] i x d h = absurd cc
read (a ∷ xs) zero x d h = cc
read (a ∷ xs) (suc i) x d h = read xs i x d h

pub map_at : {X Y : Type 0} (f : X → Y) (xs : List X) (i : ℕ) (x : X) → slice_get xs i ≡ Some x → slice_get (map f xs) i ≡ Some (f x)
map_at f [] i x h = absurd cc
map_at f (a ∷ xs) zero x h = let e : a ≡ x = cc in ap (λ v. Some (f v)) e
map_at f (a ∷ xs) (suc i) x h = map_at f xs i x h

-- the example that stands at a place of the list
pub record PickedAt (examples list : List Example) (place i : ℕ) : Type 0 where
  pub example : Example
  pub there : slice_get examples place ≡ Some example
  pub here : slice_get list i ≡ Some example

pub picked_at : (examples : List Example) (places : List ℕ) (list : List Example) (i : ℕ) → ArePicked examples places list → i < length places → PickedAt examples list (get_or places i 0) i
picked_at examples places list i z lt =
    let found = zip_some (λ i x. slice_get examples i ≡ Some x) places list i (get_or places i 0) z (here places i 0 lt) in
    record { example = found.0; there = found.2; here = found.1 }

pub place_within : (examples : List Example) (places : List ℕ) (list : List Example) (i : ℕ) → ArePicked examples places list → i < length places → get_or places i 0 < length examples
place_within examples places list i z lt =
    let at = picked_at examples places list i z lt in
    below examples (get_or places i 0) at.example at.there

-- one more row
pub rows_more : (examples : List Example) (places : List ℕ) (list : List Example) (start now next : List ℕ) (i row : ℕ) (d : Example) → ArePicked examples places list → i < length places
    → row ≡ (get_or examples (get_or places i 0) d).row → now ≡ start ++ take i (rows_of list) → next ≡ now ++ row ∷ [] → next ≡ start ++ take (i + 1) (rows_of list)
rows_more examples places list start now next i row d z lt is before after =
    let at = picked_at examples places list i z lt in
    let same : row ≡ at.example.row = is ∙ ap (λ (e : Example). e.row) (read examples (get_or places i 0) at.example d at.there) in
    let one : take (i + 1) (rows_of list) ≡ take i (rows_of list) ++ at.example.row ∷ [] = take_next (rows_of list) i at.example.row (map_at (λ (e : Example). e.row) list i at.example at.here) in
    after ∙ ap (λ (v : List ℕ). v ++ row ∷ []) before ∙ append_assoc start (take i (rows_of list)) (row ∷ []) ∙ ap (λ (n : ℕ). start ++ (take i (rows_of list) ++ n ∷ [])) same ∙ ap (λ (v : List ℕ). start ++ v) (sym one)

-- all rows
pub rows_all : (examples : List Example) (places : List ℕ) (list : List Example) (start now : List ℕ) (i : ℕ) → ArePicked examples places list → length places ≤ i
    → now ≡ start ++ take i (rows_of list) → now ≡ start ++ rows_of list
rows_all examples places list start now i z le is =
    let size = zip_lengths (λ i x. slice_get examples i ≡ Some x) places list z in
    let long = mapped (λ (e : Example). e.row) list in
    is ∙ ap (λ (v : List ℕ). start ++ v) (take_all i (rows_of list) (omega arith))
  where
    mapped : {X Y : Type 0} (f : X → Y) (xs : List X) → length (map f xs) ≡ length xs
    mapped f [] = refl
    mapped f (x ∷ xs) = ap suc (mapped f xs)

pub flat_push : {X Y : Type 0} (f : X → List Y) (xs : List X) (x : X) → flat_map f (xs ++ x ∷ []) ≡ flat_map f xs ++ f x
flat_push f [] x = none (f x)
  where
    none : {Y : Type 0} (ys : List Y) → ys ++ [] ≡ ys
    none [] = refl
    none (y ∷ ys) = ap (λ v. y ∷ v) (none ys)
flat_push f (a ∷ xs) x = ap (λ v. f a ++ v) (flat_push f xs x) ∙ sym (append_assoc (f a) (flat_map f xs) (f x))

-- the rows of one more list
pub lists_more : (lists : List (List Example)) (list : List Example) (now next : List ℕ) (i : ℕ) → slice_get lists i ≡ Some list
    → now ≡ all_rows (take i lists) → next ≡ now ++ rows_of list → next ≡ all_rows (take (i + 1) lists)
lists_more lists list now next i at before after =
    after ∙ ap (λ (v : List ℕ). v ++ rows_of list) before ∙ sym (flat_push rows_of (take i lists) list) ∙ ap (λ (v : List (List Example)). all_rows v) (sym (take_next lists i list at))

-- the list of a fold
pub list_at : (examples : List Example) (folds : List (Fold ℕ)) (lists : List (List Example)) (i : ℕ) (f : Fold ℕ) → ArePickedAll examples folds lists → slice_get folds i ≡ Some f
    → (list : List Example) × (slice_get lists i ≡ Some list) × ArePicked examples f.items list
list_at examples folds lists i f z at = zip_some (λ (f : Fold ℕ) list. ArePicked examples f.items list) folds lists i f z at

pub lists_all : (examples : List Example) (folds : List (Fold ℕ)) (lists : List (List Example)) (i : ℕ) → ArePickedAll examples folds lists → length folds ≤ i → take i lists ≡ lists
lists_all examples folds lists i z le =
    let size = zip_lengths (λ (f : Fold ℕ) list. ArePicked examples f.items list) folds lists z in take_all i lists (omega arith)
