-- The edges that are left where only marked nodes stay.
use Rattle.std.proofs.Common.{◌≡◌, ℕ, zero, suc, ◌≤◌, ◌&&◌, Bool, true, false, cond, List, [], ◌∷◌, ◌++◌, get_or, Some, slice_get, refl, sym, subst, arith}
use Rattle.fill_arena.specs.Contents.{In}
use Rattle.fill_arena.specs.declared.entry.Edge.{Edge}
use Rattle.fill_trim.specs.Marks.{IsMarked, rank, renumbered, edges_left}
use Rattle.fill_trim.proofs.Ranks.{read_marked, marked_read}

-- the second edge is the first one, renumbered
pub record IsLeft (marks : List Bool) (f e : Edge) : Type 0 where
  pub from : e.from ≡ rank marks f.from
  pub to : e.to ≡ rank marks f.to
  pub atoms : e.atoms ≡ f.atoms
  pub from_marked : IsMarked marks f.from
  pub to_marked : IsMarked marks f.to

both_true : (a b : Bool) → (a && b) ≡ true → (a ≡ true) × (b ≡ true)
both_true true b h = (refl, h)
both_true false b h = absurd cc

-- whether an edge is left
abbrev stays : List Bool → Edge → Bool
stays marks e = get_or marks e.from false && get_or marks e.to false

-- the place before, of what stands at a place now
abbrev place_at : Bool → (ℕ → ℕ) → ℕ → ℕ
place_at true before zero = 0
place_at true before (suc k) = suc (before k)
place_at false before k = suc (before k)

abbrev pub place : List Bool → List Edge → ℕ → ℕ
place marks [] k = 0
place marks (e ∷ rest) k = place_at (stays marks e) (place marks rest) k

rises_at : (b : Bool) (before : ℕ → ℕ) → ((k l : ℕ) → k ≤ l → before k ≤ before l) → (k l : ℕ) → k ≤ l → place_at b before k ≤ place_at b before l
rises_at true before r zero zero h = omega arith
rises_at true before r zero (suc l) h = omega arith
rises_at true before r (suc k) zero h = absurd (omega arith)
rises_at true before r (suc k) (suc l) h = let below = r k l (omega arith) in omega arith
rises_at false before r k l h = let below = r k l h in omega arith

later_in : (x y : Edge) (ys : List Edge) (b : Bool) → In x ys → In x (cond b (y ∷ ys) ys)
later_in x y ys true i = (suc i.0, i.1)
later_in x y ys false i = i

more_by : (b : Bool) (x : Edge) (xs : List Edge) → cond b (x ∷ xs) xs ≡ cond b (x ∷ []) [] ++ xs
more_by true x xs = refl
more_by false x xs = refl

module _ (marks : List Bool) where
  left_is : (e : Edge) → stays marks e ≡ true → IsLeft marks e (renumbered marks e)
  left_is e is =
      let both = both_true (get_or marks e.from false) (get_or marks e.to false) is in
      record {
        from = refl;
        to = refl;
        atoms = refl;
        from_marked = read_marked marks e.from both.0;
        to_marked = read_marked marks e.to both.1;
      }

  step_at : (e : Edge) (rest : List Edge) (b : Bool) → stays marks e ≡ b → ((k : ℕ) (g : Edge) → slice_get (edges_left marks rest) k ≡ Some g → (f : Edge) × (slice_get rest (place marks rest k) ≡ Some f) × IsLeft marks f g)
      → (k : ℕ) (g : Edge) → slice_get (cond b (renumbered marks e ∷ edges_left marks rest) (edges_left marks rest)) k ≡ Some g
      → (f : Edge) × (slice_get (e ∷ rest) (place_at b (place marks rest) k) ≡ Some f) × IsLeft marks f g
  step_at e rest true is before zero g h = let one : renumbered marks e ≡ g = cc in (e, refl, subst (IsLeft marks e) one (left_is e is))
  step_at e rest true is before (suc k) g h = before k g h
  step_at e rest false is before k g h = before k g h

  -- what stands among the edges left was an edge, and their order is as before
  pub left_at : (edges : List Edge) (k : ℕ) (g : Edge) → slice_get (edges_left marks edges) k ≡ Some g → (f : Edge) × (slice_get edges (place marks edges k) ≡ Some f) × IsLeft marks f g
  left_at [] k g h = absurd cc
  left_at (e ∷ rest) k g h = step_at e rest (stays marks e) refl (λ j x there. left_at rest j x there) k g h

  pub place_rises : (edges : List Edge) (k l : ℕ) → k ≤ l → place marks edges k ≤ place marks edges l
  place_rises [] k l h = omega arith
  place_rises (e ∷ rest) k l h = rises_at (stays marks e) (place marks rest) (λ i j le. place_rises rest i j le) k l h

  first_in : (e : Edge) (rest : List Edge) (b : Bool) → b ≡ true → In (renumbered marks e) (cond b (renumbered marks e ∷ edges_left marks rest) (edges_left marks rest))
  first_in e rest true is = (0, refl)
  first_in e rest false is = absurd cc

  -- an edge between marked nodes is left
  pub left_in : (edges : List Edge) (k : ℕ) (f : Edge) → slice_get edges k ≡ Some f → IsMarked marks f.from → IsMarked marks f.to → In (renumbered marks f) (edges_left marks edges)
  left_in [] k f h a b = absurd cc
  left_in (e ∷ rest) zero f h a b =
      let one : e ≡ f = cc in
      let left = marked_read marks f.from a in
      let right = marked_read marks f.to b in
      let is : stays marks f ≡ true = rw (left, right) refl in
      subst (λ (x : Edge). In (renumbered marks f) (edges_left marks (x ∷ rest))) (sym one) (first_in f rest (stays marks f) is)
  left_in (e ∷ rest) (suc k) f h a b =
      later_in (renumbered marks f) (renumbered marks e) (edges_left marks rest) (stays marks e) (left_in rest k f h a b)

  -- one edge and then the rest
  pub left_more : (e : Edge) (rest : List Edge) → edges_left marks (e ∷ rest) ≡ edges_left marks (e ∷ []) ++ edges_left marks rest
  left_more e rest = more_by (stays marks e) (renumbered marks e) (edges_left marks rest)
