-- The sequences that are marked somewhere.
use Rattle.std.specs.Prelude.{◌≡◌, ℕ, ◌+◌, ◌<◌, ◌≤◌, List, [], ◌∷◌, ◌++◌, length, slice_get, Some, true}
use Rattle.std.specs.declared.cmp.Ordering.TheVariants.{Less}
use Rattle.fill_tokens.specs.declared.token.TheConstants.{TOKEN_COUNT}
use Rattle.fill_tokens.specs.Token.{token_number}
use Rattle.fill_tokens.specs.Place.{seq_cmp}
use Rattle.fill_tokens.specs.declared.token.Token.{Token}
use Rattle.fill_tokens.specs.declared.token_set.TokenSet.{TokenSet}
use Rattle.fill_places.specs.declared.entry.Entry.{Entry}
use Rattle.fill_places.specs.Marks.{AreMarks}
use Rattle.fill_places.specs.Sides.{LeftAt, RightAt}

-- the entries are in the order of their sequences
abbrev pub AreInOrder : List Entry → Type 0
AreInOrder es = (i j : ℕ) (d e : Entry) → i < j → slice_get es i ≡ Some d → slice_get es j ≡ Some e → seq_cmp d.seq e.seq ≡ Less

-- one of the entries below n is of the sequence
abbrev pub HasSeq : List Entry → ℕ → List Token → Type 0
HasSeq es n r = (i : ℕ) × (e : Entry) × (i < n) × (slice_get es i ≡ Some e) × (e.seq ≡ r)

-- in order, with their marks, entries of sequences that have the property Q, and all of those that are marked somewhere
pub record Entries (M : List Token → ℕ → Type 0) (n : ℕ) (Q : List Token → Type 0) (es : List Entry) : Type 0 where
  pub each : (i : ℕ) (e : Entry) → slice_get es i ≡ Some e → AreMarks (M e.seq) n e.at × Q e.seq
  pub rising : AreInOrder es
  pub full : (r : List Token) → Q r → (k : ℕ) → M r k → HasSeq es (length es) r

abbrev pub AddsEntries : (List Token → ℕ → Type 0) → ℕ → List Entry → List Entry → (List Token → Type 0) → Type 0
AddsEntries M n old new Q = (row : List Entry) × (new ≡ old ++ row) × Entries M n Q row

abbrev pub HasLength : ℕ → List Token → Type 0
HasLength j r = length r ≡ j

abbrev pub HasAtMost : ℕ → List Token → Type 0
HasAtMost j r = length r ≤ j

abbrev pub IsOnly : List Token → List Token → Type 0
IsOnly s r = r ≡ s

-- the sequence with a token after it whose number is below m
abbrev pub EndsWithOne : List Token → ℕ → List Token → Type 0
EndsWithOne base m r = (x : Token) × (token_number x < m) × (r ≡ base ++ x ∷ [])

-- one of the first m sequences with any token after it
abbrev pub EndsWithAny : List Entry → ℕ → List Token → Type 0
EndsWithAny es m r = (i : ℕ) × (e : Entry) × (i < m) × (slice_get es i ≡ Some e) × EndsWithOne e.seq (TOKEN_COUNT + 1) r

-- one of the first m sequences with the token before it
abbrev pub BeginsWithIt : Token → List Entry → ℕ → List Token → Type 0
BeginsWithIt x es m r = (i : ℕ) × (e : Entry) × (i < m) × (slice_get es i ≡ Some e) × (r ≡ x ∷ e.seq)

-- one of the sequences with a token before it whose number is below m
abbrev pub BeginsWithAny : List Entry → ℕ → List Token → Type 0
BeginsWithAny es m r = (x : Token) × (token_number x < m) × BeginsWithIt x es (length es) r

-- the sequences of up to three tokens of the set that may stand before a position, and end somewhere in the text
abbrev pub AreLefts : TokenSet → List ℕ → List Entry → Type 0
AreLefts token_set t = Entries (LeftAt token_set t) (length t) (HasAtMost 3)

-- the sequences of up to three tokens of the set that may stand after a position, and begin somewhere in the text
abbrev pub AreRights : TokenSet → List ℕ → List Entry → Type 0
AreRights token_set t = Entries (RightAt token_set t) (length t) (HasAtMost 3)

-- the entry of the number is marked at the position
abbrev pub IsMarkedAt : List Entry → ℕ → ℕ → Type 0
IsMarkedAt es k i = (e : Entry) × (slice_get es i ≡ Some e) × (slice_get e.at k ≡ Some true)
