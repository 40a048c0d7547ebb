-- Where sequences stand in a text.
use Rattle.std.specs.Prelude.{◌≡◌, ℕ, List, Some, slice_get}
use Rattle.fill_tokens.specs.Cuts.{AreCuts, IsRisingListOf}
use Rattle.fill_tokens.specs.Span.{Begins, Ends}
use Rattle.fill_tokens.specs.declared.token.Token.{Token}
use Rattle.fill_doubt.specs.Tokens.{AreReadIn}
use Rattle.fill_doubt.specs.declared.cuts.Cuts.{Cuts}
use Rattle.fill_doubt.specs.declared.cuts.Pair.{Pair}
use Rattle.fill_doubt.specs.declared.sides.Side.{Side}
use Rattle.fill_doubt.specs.declared.sides.Sides.{Sides}

-- one of them is of the sequence
abbrev pub HasAt : Sides → List Token → ℕ → Type 0
HasAt sides r i = (x : Side) × (slice_get sides.sides.items i ≡ Some x) × (x.seq ≡ r)

-- the positions are those at which the sequences stand
abbrev pub AreSides : (List Token → ℕ → Type 0) → List Side → Type 0
AreSides P sides = (i : ℕ) (x : Side) → slice_get sides i ≡ Some x → IsRisingListOf (P x.seq) x.positions.items

-- the two sequences are the last ones whose cuts were looked for
abbrev pub IsLastPair : Cuts → List Token → List Token → Type 0
IsLastPair cuts l r = (p : Pair) × (cuts.pair ≡ Some p) × (p.left ≡ l) × (p.right ≡ r)

-- what was found is so in the text
pub record AreCutsOf (t : List ℕ) (cuts : Cuts) : Type 0 where
  pub tokens : AreReadIn t cuts.tokens
  pub lefts : AreSides (λ r k. Ends r t k) cuts.lefts.sides.items
  pub rights : AreSides (λ r k. Begins r t k) cuts.rights.sides.items
  pub last : (l r : List Token) → IsLastPair cuts l r → AreCuts l r t cuts.cuts.items
