-- changes of a list of items
use Rattle.std.specs.Prelude.{ℕ, ◌+◌, ◌<◌, ◌≤◌, List, [], ◌∷◌, ◌++◌, Option, Some, None, take, drop}
use Rattle.fill_split.specs.declared.change.Change.{Change}
use Rattle.fill_split.specs.declared.change.Change.TheVariants.{Insert, Replace, Remove}

-- the items that a change puts in
abbrev pub put_in : {I : Type 0} → Change I → List I
put_in (Insert x) = x ∷ []
put_in (Replace x) = x ∷ []
put_in Remove = []

-- how many items a change takes out
abbrev pub taken_out : {I : Type 0} → Change I → ℕ
taken_out (Insert x) = 0
taken_out (Replace x) = 1
taken_out Remove = 1

-- the items before the place, what is put in, and the items after those that are taken out
abbrev pub changed : {I : Type 0} → Change I → ℕ → List I → List I
changed change at items = take at items ++ put_in change ++ drop (at + taken_out change) items

-- the place is one for the change of n items
abbrev pub IsPlace : {I : Type 0} → Change I → ℕ → ℕ → Type 0
IsPlace (Insert x) at count = at ≤ count
IsPlace (Replace x) at count = at < count
IsPlace Remove at count = at < count

-- what is put in is allowed
abbrev pub IsAllowed : {I : Type 0} → (I → Type 0) → Change I → Type 0
IsAllowed allowed (Insert x) = allowed x
IsAllowed allowed (Replace x) = allowed x
IsAllowed allowed Remove = Unit {0}

-- the list of what is there
abbrev pub of_option : {X : Type 0} → Option X → List X
of_option None = []
of_option (Some x) = x ∷ []
