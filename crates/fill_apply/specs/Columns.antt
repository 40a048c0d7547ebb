-- The columns that guards read.
use Rattle.std.specs.Prelude.{◌≡◌, ℕ, List, [], ◌∷◌, ◌++◌, All, Contains, Option, None, Some, MatchOption}
use Rattle.fill_tree.specs.declared.guard.Literal.{Literal}
use Rattle.fill_tree.specs.declared.guard.Guard.{Guard}

abbrev pub literal_columns : Option Literal → List ℕ
literal_columns None = []
literal_columns (Some l) = l.column ∷ []

-- the columns of the guard's literals, in their order
abbrev pub guard_columns : Guard → List ℕ
guard_columns g = g.first.column ∷ literal_columns g.second

-- all of the columns are inputs, or this one is the first that is none
abbrev pub IsFirstOther : List ℕ → List ℕ → Option ℕ → Type 0
IsFirstOther inputs columns first = MatchOption first (All (Contains inputs) columns)
    (λ c. (before : List ℕ) × (after : List ℕ) × (columns ≡ before ++ c ∷ after) × All (Contains inputs) before × ¬ (Contains inputs c))
