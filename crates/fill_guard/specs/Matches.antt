-- Matches, of which no more than three are counted: no literal asks for more.
use Rattle.std.specs.Prelude.{◌≡◌, ◌⊎◌, ℕ, ◌+◌, ◌<◌, ◌≤◌, List, length, slice_get, Some, Contains, min}
use Rattle.fill_tokens.specs.Span.{Begins}
use Rattle.fill_tokens.specs.Value.{IsCount}
use Rattle.fill_tokens.specs.declared.token.Token.{Token}

-- the number of matches of the sequence in the text, or three where there are more
abbrev pub IsMatchCount : List Token → List ℕ → ℕ → Type 0
IsMatchCount r t few = (count : ℕ) × IsCount (Begins r t) (length t + 1) count × (few ≡ min count 3)

-- fewer than three numbers below n have the property, and this is how many; or three of them have it
abbrev pub IsFew : (ℕ → Type 0) → ℕ → ℕ → Type 0
IsFew P n few = ((few < 3) × IsCount P n few) ⊎ ((few ≡ 3) × ((m : ℕ) × (m ≤ n) × IsCount P m 3))

-- a piece begins there, and a second one where it ends
abbrev pub IsJoined : List ℕ → List ℕ → List ℕ → ℕ → Type 0
IsJoined starts ends seconds k = (i : ℕ) × (slice_get starts i ≡ Some k) × (b : ℕ) × (slice_get ends i ≡ Some b) × Contains seconds b

-- all of them are below n
abbrev pub AreBelow : List ℕ → ℕ → Type 0
AreBelow ks n = (i k : ℕ) → slice_get ks i ≡ Some k → k < n
