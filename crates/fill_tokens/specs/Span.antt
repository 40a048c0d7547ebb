-- Which pieces of a text tokens and sequences of tokens span, and the cuts between two sequences.
use Rattle.std.specs.Prelude.{◌≡◌, ℕ, ◌+◌, ◌<◌, ◌≤◌, Bool, true, false, List, [], ◌∷◌, length, slice_index}
use Rattle.fill_tokens.specs.Kind.{run_has, kind_of}
use Rattle.fill_tokens.specs.declared.token.Token.{Token}
use Rattle.fill_tokens.specs.declared.kind.Kind.{Kind}
use Rattle.fill_tokens.specs.declared.kind.Kind.TheVariants.{AtStart, AtEnd, Run, Single}

-- a run from a to b: every character of the piece has the property, and a neighbour is absent or has it not
pub record IsRun (p : ℕ → Bool) (t : List ℕ) (a b : ℕ) : Type 0 where
  pub some : a < b
  pub within : b ≤ length t
  pub inside : (i : ℕ) → a ≤ i → i < b → p (slice_index t i) ≡ true
  pub before : (i : ℕ) → i + 1 ≡ a → p (slice_index t i) ≡ false
  pub after : b < length t → p (slice_index t b) ≡ false

abbrev pub KindSpans : Kind → List ℕ → ℕ → ℕ → Type 0
KindSpans AtStart t a b = (a ≡ 0) × (b ≡ 0)
KindSpans AtEnd t a b = (a ≡ length t) × (b ≡ length t)
KindSpans (Run class) t a b = IsRun (run_has class) t a b
KindSpans (Single c) t a b = (a < length t) × (slice_index t a ≡ c) × (b ≡ a + 1)

-- the token spans the piece of t from a to b, the character at b left out
abbrev pub Spans : Token → List ℕ → ℕ → ℕ → Type 0
Spans token = KindSpans (kind_of token)

-- the tokens span consecutive pieces that begin at a and end at b
abbrev pub SeqSpans : List Token → List ℕ → ℕ → ℕ → Type 0
SeqSpans [] t a b = (a ≡ b) × (a ≤ length t)
SeqSpans (x ∷ xs) t a b = (m : ℕ) × Spans x t a m × SeqSpans xs t m b

-- a piece that the sequence spans begins at k
abbrev pub Begins : List Token → List ℕ → ℕ → Type 0
Begins r t k = (b : ℕ) × SeqSpans r t k b

-- a piece that the sequence spans ends at k
abbrev pub Ends : List Token → List ℕ → ℕ → Type 0
Ends r t k = (a : ℕ) × SeqSpans r t a k

-- k is a cut: the first sequence spans a piece up to k, and the second one from k on
abbrev pub IsCut : List Token → List Token → List ℕ → ℕ → Type 0
IsCut r s t k = Ends r t k × Begins s t k
