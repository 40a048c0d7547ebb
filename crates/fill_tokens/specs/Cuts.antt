-- The rising lists of the positions at which a text is cut, and at which the pieces of a sequence begin.
use Rattle.std.specs.Prelude.{ℕ, ◌↔◌, List, Contains}
use Rattle.std.specs.List.Sorted.{IsStrictlyIncreasing}
use Rattle.fill_tokens.specs.Span.{Begins, IsCut}
use Rattle.fill_tokens.specs.declared.token.Token.{Token}

-- the list rises, and has exactly the numbers that have the property
pub record IsRisingListOf (P : ℕ → Type 0) (ks : List ℕ) : Type 0 where
  pub rising : IsStrictlyIncreasing ks
  pub exact : (k : ℕ) → Contains ks k ↔ P k

-- the list has the cuts between the two sequences
abbrev pub AreCuts : List Token → List Token → List ℕ → List ℕ → Type 0
AreCuts r s t ks = IsRisingListOf (IsCut r s t) ks

-- the list has the positions at which a piece that the sequence spans begins
abbrev pub AreMatches : List Token → List ℕ → List ℕ → Type 0
AreMatches r t ks = IsRisingListOf (Begins r t) ks
