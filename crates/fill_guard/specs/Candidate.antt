-- The literals that are kept of all that hold on the rows inside: for each a set of rows outside, as the bits of a number.
use Rattle.std.specs.Prelude.{◌≡◌, ◌↔◌, ◌⊎◌, ℕ, ◌<◌, ◌≤◌, List, ◌++◌, length, slice_get, Some, Contains}
use Rattle.std.specs.List.{AllPairs}
use Rattle.std.specs.Int.{bit_at}
use Rattle.std.specs.declared.cmp.Ordering.TheVariants.{Less}
use Rattle.fill_text.specs.Data.{SheetData}
use Rattle.fill_tokens.specs.declared.token.Token.{Token}
use Rattle.fill_tokens.specs.declared.token_set.TokenSet.{TokenSet}
use Rattle.fill_tree.specs.Guard.{LiteralHolds}
use Rattle.fill_tree.specs.Separate.{IsTested, literal_cmp}
use Rattle.fill_tree.specs.declared.guard.Literal.{Literal}
use Rattle.fill_guard.specs.Read.{AreCells, AreCounts, HoldsOn}
use Rattle.fill_guard.specs.declared.candidates.Candidate.{Candidate}

-- the number's bits tell which of the items have the property
pub record IsMask {A : Type 0} (P : A → Type 0) (items : List A) (mask : ℕ) : Type 0 where
  pub bits : (i : ℕ) (x : A) → slice_get items i ≡ Some x → (bit_at mask i ≡ 1) ↔ P x
  pub past : (i : ℕ) → length items ≤ i → bit_at mask i ≡ 0

-- .. on which of the rows the literal holds
abbrev pub IsSetOf : SheetData → List ℕ → Literal → ℕ → Type 0
IsSetOf sheet rows l mask = IsMask (λ row. LiteralHolds sheet row l) rows mask

abbrev pub NotAfter : Literal → Literal → Type 0
NotAfter a b = ¬ (literal_cmp b a ≡ Less)

-- what is kept makes the literal needless: it has the literal's set of rows outside, or it holds on none of them, so that
-- it makes a guard alone
abbrev pub StandsFor : SheetData → List ℕ → Literal → Candidate → Type 0
StandsFor sheet outside l k = IsSetOf sheet outside l k.outside ⊎ (k.outside ≡ 0)

-- After the old ones more literals are kept, in order, that have the property Q and hold on all rows inside, each with
-- its set of rows outside. For each literal with Q that holds on all rows inside one stands that is kept: an old one, or
-- one that is not after it.
pub record AreMore (sheet : SheetData) (inside outside : List ℕ) (Q : Literal → Type 0) (old more : List Candidate) : Type 0 where
  pub rising : AllPairs (λ a b. literal_cmp a.literal b.literal ≡ Less) more
  pub each : (k : Candidate) → Contains more k → Q k.literal × HoldsOn sheet inside k.literal × IsSetOf sheet outside k.literal k.outside
  pub full : (l : Literal) → Q l → HoldsOn sheet inside l →
      (k : Candidate) × StandsFor sheet outside l k × (Contains old k ⊎ (Contains more k × NotAfter k.literal l))

abbrev pub Keeps : SheetData → List ℕ → List ℕ → List Candidate → List Candidate → (Literal → Type 0) → Type 0
Keeps sheet inside outside old new Q = (more : List Candidate) × (new ≡ old ++ more) × AreMore sheet inside outside Q old more

-- .. for all rows with such counts of matches
abbrev pub KeepsCounted : ℕ → List Token → List ℕ → List ℕ → List Candidate → List Candidate → (Literal → Type 0) → Type 0
KeepsCounted column r ins outs old new Q = (sheet : SheetData) (inside outside : List ℕ) →
    AreCounts sheet column r inside ins → AreCounts sheet column r outside outs → Keeps sheet inside outside old new Q

-- .. for all rows with such cells
abbrev pub KeepsRead : ℕ → List (List ℕ) → List (List ℕ) → List Candidate → List Candidate → (Literal → Type 0) → Type 0
KeepsRead column ins outs old new Q = (sheet : SheetData) (inside outside : List ℕ) →
    AreCells sheet column inside ins → AreCells sheet column outside outs → Keeps sheet inside outside old new Q

abbrev pub OnlyLiteral : Literal → Literal → Type 0
OnlyLiteral x l = l ≡ x

-- a literal of the column, the sequence and a number of matches below m
abbrev pub OfLeast : ℕ → List Token → ℕ → Literal → Type 0
OfLeast column r m l = (l.column ≡ column) × (l.seq ≡ r) × (1 ≤ l.least) × (l.least < m)

-- .. of the column, the sequence and the number of matches
abbrev pub OfSigns : ℕ → List Token → ℕ → Literal → Type 0
OfSigns column r least l = (l.column ≡ column) × (l.seq ≡ r) × (l.least ≡ least)

-- .. of the column and one of the first m sequences
abbrev pub OfSeqs : ℕ → List (List Token) → ℕ → Literal → Type 0
OfSeqs column seqs m l = (l.column ≡ column) × ((i : ℕ) × (i < m) × (slice_get seqs i ≡ Some l.seq)) × (1 ≤ l.least) × (l.least ≤ 3)

-- .. of the column and a sequence of the set
abbrev pub OfColumn : TokenSet → ℕ → Literal → Type 0
OfColumn token_set column l = (l.column ≡ column) × IsTested token_set l.seq × (1 ≤ l.least) × (l.least ≤ 3)

-- .. of one of the first m columns
abbrev pub OfColumns : TokenSet → List ℕ → ℕ → Literal → Type 0
OfColumns token_set columns m l = ((i : ℕ) × (i < m) × (slice_get columns i ≡ Some l.column)) × IsTested token_set l.seq × (1 ≤ l.least) × (l.least ≤ 3)
