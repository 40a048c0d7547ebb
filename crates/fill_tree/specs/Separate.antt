-- Which guards there are over a sheet's inputs, their order, and the guards that tell some rows from others.
use Rattle.std.specs.Prelude.{◌≡◌, ℕ, ◌<◌, ◌≤◌, List, ◌∷◌, length, All, Contains, Bool, true, false, IfSome, option_to_list}
use Rattle.std.specs.declared.cmp.Ordering.{Ordering}
use Rattle.std.specs.declared.cmp.Ordering.TheVariants.{Less}
use Rattle.std.specs.Ordering.{nat_cmp, ordering_then, on, then_cmp}
use Rattle.std.specs.Cmp.Lexicographic.{slice_cmp}
use Rattle.fill_text.specs.Data.{SheetData}
use Rattle.fill_tokens.specs.Place.{seq_cmp}
use Rattle.fill_tokens.specs.PlaceGrammar.{OnlyFirst, OnlyLast}
use Rattle.fill_tokens.specs.TokenSet.{AreTokensOf}
use Rattle.fill_tokens.specs.declared.token.Token.{Token}
use Rattle.fill_tokens.specs.declared.token_set.TokenSet.{TokenSet}
use Rattle.fill_tokens.specs.declared.token.Token.TheVariants.{Start, End}
use Rattle.fill_tree.specs.Guard.{GuardHolds}
use Rattle.fill_tree.specs.declared.guard.Literal.{Literal}
use Rattle.fill_tree.specs.declared.guard.Guard.{Guard}
use Rattle.fill_tree.specs.declared.user.Settings.{Settings}

-- the sequences of literals by a set of tokens: one or two of these, the start of the text only first and its end only
-- last
pub record IsTested (token_set : TokenSet) (r : List Token) : Type 0 where
  pub some : 0 < length r
  pub few : length r ≤ 2
  pub start : OnlyFirst Start r
  pub last : OnlyLast End r
  pub tokens : AreTokensOf token_set r

-- the literal tests an input's cell for one, two or three matches
pub record IsLiteral (settings : Settings) (sheet : SheetData) (l : Literal) : Type 0 where
  pub input : Contains sheet.inputs l.column
  pub tested : IsTested settings.profile.tokens l.seq
  pub some : 1 ≤ l.least
  pub few : l.least ≤ 3

-- plain before negated
abbrev pub sign_number : Bool → ℕ
sign_number false = 0
sign_number true = 1

-- by the column, the sequence, the number of matches and the sign
abbrev pub literal_cmp : Literal → Literal → Ordering
literal_cmp a b = ordering_then (nat_cmp a.column b.column) (ordering_then (seq_cmp a.seq b.seq)
    (ordering_then (nat_cmp a.least b.least) (nat_cmp (sign_number a.negated) (sign_number b.negated))))

abbrev pub literals : Guard → List Literal
literals g = g.first ∷ option_to_list g.second

-- guards of one literal before those of two, and then by their literals from the left
abbrev pub guard_cmp : Guard → Guard → Ordering
guard_cmp = then_cmp (on (λ g. length (literals g)) nat_cmp) (on literals (slice_cmp literal_cmp))

-- one literal, or two of which the first is before the second
abbrev pub IsGuard : Settings → SheetData → Guard → Type 0
IsGuard settings sheet g = IsLiteral settings sheet g.first × IfSome g.second (λ l. IsLiteral settings sheet l × (literal_cmp g.first l ≡ Less))

-- the guard holds on each row inside and on no row outside
pub record Separates (settings : Settings) (sheet : SheetData) (inside outside : List ℕ) (g : Guard) : Type 0 where
  pub is : IsGuard settings sheet g
  pub holds : All (λ row. GuardHolds sheet row g) inside
  pub fails : All (λ row. ¬ (GuardHolds sheet row g)) outside

-- of all guards that do so, none is before this one
pub record IsLeastGuard (settings : Settings) (sheet : SheetData) (inside outside : List ℕ) (g : Guard) : Type 0 where
  pub separates : Separates settings sheet inside outside g
  pub least : (h : Guard) → Separates settings sheet inside outside h → ¬ (guard_cmp h g ≡ Less)
