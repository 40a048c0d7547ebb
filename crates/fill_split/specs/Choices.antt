-- the branch that was chosen for an item
use Rattle.std.specs.Prelude.{◌≡◌, ℕ, ◌<◌, ◌≤◌, ◌⊎◌, List, [], ◌∷◌, ◌++◌, Some, IfSome}
use Rattle.fill_split.specs.declared.find.Choice.{Choice}
use Rattle.fill_split.specs.declared.rule.Placing.{Placing}
use Rattle.fill_split.specs.Placement.{GoesTo}

-- the item goes to the branch at place k, and the value stands for both
pub record IsChosen {K I : Type 0} (stands : K → List I → Type 0) (rule : Placing) (fits : List I → Type 0) (weight : List I → ℕ → Type 0) (bs : List (List I)) (x : I) (k : ℕ) (kept : K) : Type 0 where
  pub branch : List I
  pub goes : GoesTo rule fits weight bs x k branch
  pub stand : stands kept (branch ++ x ∷ [])

-- the choice's value stands for the list, and the weight that it notes, if any, is the list's
pub record IsFor {K I : Type 0} (stands : K → List I → Type 0) (weight : List I → ℕ → Type 0) (c : Choice K) (l : List I) : Type 0 where
  pub kept : stands c.kept l
  pub noted : IfSome c.weight (λ w. weight l w)

-- what the choice is for weighs that
abbrev pub Weighs : {K I : Type 0} → (K → List I → Type 0) → (List I → ℕ → Type 0) → Choice K → ℕ → Type 0
Weighs {K} {I} stands weight c w = (l : List I) → IsFor stands weight c l → weight l w

-- the choice with its weight noted
abbrev pub with_weight : {K : Type 0} → Choice K → ℕ → Choice K
with_weight c w = record { branch = c.branch; kept = c.kept; weight = Some w }

-- the lighter of two choices, or the first where they weigh the same
abbrev pub IsLighter : {K I : Type 0} → (K → List I → Type 0) → (List I → ℕ → Type 0) → Choice K → Choice K → Choice K → Type 0
IsLighter stands weight best next after =
    (w : ℕ) × (v : ℕ) × Weighs stands weight best w × Weighs stands weight next v × (((w ≤ v) × (after ≡ with_weight best w)) ⊎ ((v < w) × (after ≡ with_weight next v)))
