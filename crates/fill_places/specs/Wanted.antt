-- The places of a position, and parts of them.
use Rattle.std.specs.Prelude.{◌≡◌, ℕ, ◌+◌, ◌-◌, ◌<◌, ◌≤◌, List, ℤ, length, FitsSigned, slice_get, Some}
use Rattle.std.specs.Int.{w32}
use Rattle.fill_tokens.specs.Span.{IsCut}
use Rattle.fill_tokens.specs.Value.{HasValue, IsCount}
use Rattle.fill_tokens.specs.TokenSet.{IsPlaceOf}
use Rattle.fill_tokens.specs.declared.token.Token.{Token}
use Rattle.fill_tokens.specs.declared.token_set.TokenSet.{TokenSet}
use Rattle.fill_tokens.specs.declared.place.Place.{Place}
use Rattle.fill_tokens.specs.declared.place.Place.TheVariants.{CPos, Pos}
use Rattle.fill_places.specs.declared.entry.Entry.{Entry}
use Rattle.fill_places.specs.Entries.{HasSeq}

-- a place of the grammar by tokens of the set, with the value
abbrev pub IsWanted : TokenSet → List ℕ → ℕ → Place → Type 0
IsWanted token_set t k p = IsPlaceOf token_set p × HasValue p t k

-- the fixed place of the number, which is one of 32 bits
abbrev pub FittingFixed : ℤ → Place → Type 0
FittingFixed j p = (p ≡ CPos j) × FitsSigned w32 j

-- the place between the sequences with the count, which is a number of 32 bits
abbrev pub FittingPair : List Token → List Token → ℤ → Place → Type 0
FittingPair l r c p = (p ≡ Pos l r c) × FitsSigned w32 c

-- wanted, and fixed
abbrev pub FixedOf : TokenSet → List ℕ → ℕ → Place → Type 0
FixedOf token_set t k (CPos j) = IsWanted token_set t k (CPos j)
FixedOf token_set t k (Pos a b c) = ⊥

-- wanted, and between the two sequences
abbrev pub PairOf : TokenSet → List ℕ → ℕ → List Token → List Token → Place → Type 0
PairOf token_set t k l r (CPos j) = ⊥
PairOf token_set t k l r (Pos a b c) = (a ≡ l) × (b ≡ r) × IsWanted token_set t k (Pos a b c)

-- the entry of one of the first m numbers is of the sequence
abbrev pub HasNumbered : List Entry → List ℕ → ℕ → List Token → Type 0
HasNumbered es numbers m r = (j i : ℕ) × (e : Entry) × (j < m) × (slice_get numbers j ≡ Some i) × (slice_get es i ≡ Some e) × (e.seq ≡ r)

-- wanted, and between the left sequence and that of an entry of one of the first m numbers
abbrev pub RowOf : TokenSet → List ℕ → ℕ → List Token → List Entry → List ℕ → ℕ → Place → Type 0
RowOf token_set t k l es numbers m (CPos j) = ⊥
RowOf token_set t k l es numbers m (Pos a b c) = (a ≡ l) × HasNumbered es numbers m b × IsWanted token_set t k (Pos a b c)

-- wanted, and with this left sequence
abbrev pub FromLeft : TokenSet → List ℕ → ℕ → List Token → Place → Type 0
FromLeft token_set t k l (CPos j) = ⊥
FromLeft token_set t k l (Pos a b c) = (a ≡ l) × IsWanted token_set t k (Pos a b c)

-- wanted, and with a left sequence of one of the first m entries
abbrev pub FromLefts : TokenSet → List ℕ → ℕ → List Entry → ℕ → Place → Type 0
FromLefts token_set t k es m (CPos j) = ⊥
FromLefts token_set t k es m (Pos a b c) = HasSeq es m a × IsWanted token_set t k (Pos a b c)

-- the position is a cut, the a-th from the left and the b-th from the right
pub record Counts (t : List ℕ) (k : ℕ) (l r : List Token) (a b : ℕ) : Type 0 where
  pub within : k ≤ length t
  pub cut : IsCut l r t k
  pub upto : IsCount (IsCut l r t) (k + 1) a
  pub from : IsCount (λ i. IsCut l r t (length t - i)) (length t - k + 1) b
  pub a_some : 0 < a
  pub b_some : 0 < b
