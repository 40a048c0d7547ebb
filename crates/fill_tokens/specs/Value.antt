-- The value of a place in a text.
use Rattle.std.specs.Prelude.{◌≡◌, ◌⊎◌, ℕ, zero, suc, ◌+◌, ◌-◌, ◌≤◌, List, pos, negsuc, length}
use Rattle.fill_tokens.specs.Span.{IsCut}
use Rattle.fill_tokens.specs.declared.token.Token.{Token}
use Rattle.fill_tokens.specs.declared.place.Place.{Place}
use Rattle.fill_tokens.specs.declared.place.Place.TheVariants.{CPos, Pos}

-- the second number counts those below the first one that have the property
abbrev pub IsCount : (ℕ → Type 0) → ℕ → ℕ → Type 0
IsCount P zero c = c ≡ 0
IsCount P (suc n) c = ((d : ℕ) × (c ≡ d + 1) × P n × IsCount P n d) ⊎ ((P n → ⊥) × IsCount P n c)

-- the position is a cut, the c-th from the left
abbrev pub IsCutFromLeft : List Token → List Token → List ℕ → ℕ → ℕ → Type 0
IsCutFromLeft r s t c k = (k ≤ length t) × IsCut r s t k × IsCount (IsCut r s t) (k + 1) c

-- the position is a cut, the c-th from the right
abbrev pub IsCutFromRight : List Token → List Token → List ℕ → ℕ → ℕ → Type 0
IsCutFromRight r s t c k = (k ≤ length t) × IsCut r s t k × IsCount (λ i. IsCut r s t (length t - i)) (length t - k + 1) c

-- the place's value in the text is k; no number is the value of a place that has none
abbrev pub HasValue : Place → List ℕ → ℕ → Type 0
HasValue (CPos (pos j)) t k = (j ≤ length t) × (k ≡ j)
HasValue (CPos (negsuc j)) t k = k + j ≡ length t
HasValue (Pos r s (pos c)) t k = IsCutFromLeft r s t c k
HasValue (Pos r s (negsuc c)) t k = IsCutFromRight r s t (c + 1) k
