-- Numbers of sets.
use Rattle.std.specs.Prelude.{◌≡◌, ◌⊎◌, ℕ, List, [], ◌∷◌, ◌++◌, length, Some, slice_get}
use Rattle.fill_arena.specs.Contents.{EachIn, SomeIn}
use Rattle.fill_arena.specs.declared.entry.Edge.{Edge}
use Rattle.fill_meet.specs.declared.labels.Labels.{Labels}

-- the number is that of the set
abbrev pub IsNumber : List ℕ → ℕ → ℕ → Type 0
IsNumber sets s n = slice_get sets n ≡ Some s

-- the set had the number, or was put at the end and has it now
abbrev pub IsNumbered : List ℕ → List ℕ → ℕ → ℕ → Type 0
IsNumbered old new s n = ((new ≡ old) × IsNumber old s n) ⊎ ((new ≡ old ++ s ∷ []) × (n ≡ length old))

-- the edge has the number of its set
pub record HasLabel (l : Labels) (k : ℕ) (e : Edge) : Type 0 where
  pub number : ℕ
  pub at : slice_get l.of.items k ≡ Some number
  pub set : IsNumber l.sets.items e.atoms number

-- for each edge the number of its set, and sets of edges only
pub record AreLabels (edges : List Edge) (l : Labels) : Type 0 where
  pub long : length l.of.items ≡ length edges
  pub each : (k : ℕ) (e : Edge) → slice_get edges k ≡ Some e → HasLabel l k e
  pub real : EachIn (λ s. SomeIn (λ e. e.atoms ≡ s) edges) l.sets.items
