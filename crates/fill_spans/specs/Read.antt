-- A text of which the first characters are read.
use Rattle.std.specs.Prelude.{◌≡◌, ℕ, ◌+◌, ◌<◌, ◌≤◌, Bool, true, false, List, Option, length, slice_index, slice_get, Some, MatchOption}
use Rattle.fill_text.specs.Classes.{class_of}
use Rattle.fill_text.specs.declared.class.Class.{Class}
use Rattle.fill_tokens.specs.Token.{token_number}
use Rattle.fill_tokens.specs.Span.{IsRun, KindSpans}
use Rattle.fill_tokens.specs.TokenSet.{IsTokenOf}
use Rattle.fill_tokens.specs.declared.token.Token.{Token}
use Rattle.fill_tokens.specs.declared.token_set.TokenSet.{TokenSet}
use Rattle.fill_tokens.specs.declared.kind.Kind.TheVariants.{Single}
use Rattle.fill_spans.specs.Pieces.{AreExactly, ArePieces}
use Rattle.fill_spans.specs.declared.pieces.Pieces.{Pieces}

-- the classes of the text's characters
pub record AreClasses (t : List ℕ) (classes : List Class) : Type 0 where
  pub long : length classes ≡ length t
  pub each : (i : ℕ) (k : Class) → slice_get classes i ≡ Some k → k ≡ class_of (slice_index t i)

-- a run that ends below i
abbrev pub RunsBelow : (ℕ → Bool) → List ℕ → ℕ → ℕ → ℕ → Type 0
RunsBelow p t i a b = IsRun p t a b × (b < i)

-- the character before the position, if there is one, is not in the class
abbrev pub IsEdge : (ℕ → Bool) → List ℕ → ℕ → Type 0
IsEdge p t i = (j : ℕ) → j + 1 ≡ i → p (slice_index t j) ≡ false

-- from a start on all characters before the position are in the class, but not the one before the start
abbrev pub GoesOn : (ℕ → Bool) → List ℕ → ℕ → ℕ → Type 0
GoesOn p t i start = (start < i) × ((j : ℕ) → start ≤ j → j < i → p (slice_index t j) ≡ true) × IsEdge p t start

-- the runs that end below i, and the start of the one that goes on to i
pub record AreRead (p : ℕ → Bool) (t : List ℕ) (i : ℕ) (starts ends : List ℕ) (run : Option ℕ) : Type 0 where
  pub runs : AreExactly (RunsBelow p t i) starts ends
  pub last : MatchOption run (IsEdge p t i) (GoesOn p t i)

-- the pieces of one character that begin below i
abbrev pub SinglesBelow : ℕ → List ℕ → ℕ → ℕ → ℕ → Type 0
SinglesBelow c t i a b = KindSpans (Single c) t a b × (a < i)

-- the pieces of those of the first m tokens that the set has, in the order of their numbers
pub record AreRows (token_set : TokenSet) (m : ℕ) (t : List ℕ) (rows : List Pieces) : Type 0 where
  pub many : length rows ≡ m
  pub each : (i : ℕ) (row : Pieces) (token : Token) → slice_get rows i ≡ Some row → token_number token ≡ i + 1 → IsTokenOf token_set token → ArePieces token t row
