-- The lines that a source gives.
use Rattle.std.specs.Prelude.{◌≡◌, ◌⊎◌, ℕ, List, [], ◌∷◌, ◌++◌, Option, None, Some, ⊤}
use Rattle.std.specs.Str.Lines.{lines}
use Rattle.fill_edge.specs.Outside.{Rose}

-- the next line of the bytes that are to come, where these are known; none at their end, or where a read failed
abbrev pub IsNextLine : Option (List ℕ) → Option (List ℕ) → ℕ → ℕ → Option (List ℕ) → Type 0
IsNextLine None rest before now found = ⊤
IsNextLine (Some bytes) rest before now None = (lines bytes ≡ []) ⊎ Rose before now
IsNextLine (Some bytes) None before now (Some line) = ⊥
IsNextLine (Some bytes) (Some rest) before now (Some line) = lines bytes ≡ line ∷ lines rest

-- the lines of what a source had left, where it tells that: all of them, or some first ones where a read failed
abbrev pub AreLinesOf : Option (List ℕ) → ℕ → ℕ → List (List ℕ) → Type 0
AreLinesOf None before now heard = ⊤
AreLinesOf (Some bytes) before now heard = (heard ≡ lines bytes) ⊎ (Rose before now × ((later : List (List ℕ)) × (lines bytes ≡ heard ++ later)))
