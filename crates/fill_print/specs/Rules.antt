-- Which conditional programs the notation has by tokens of a set.
use Rattle.std.specs.Prelude.{◌≢◌, ℕ, ◌<◌, ◌≤◌, ◌^◌, List, [], ◌∷◌, All, IfSome, length}
use Rattle.std.specs.Char.{IsScalar}
use Rattle.fill_tokens.specs.PlaceGrammar.{OnlyFirst, OnlyLast}
use Rattle.fill_tokens.specs.TokenSet.{AreTokensOf, IsPlaceOf}
use Rattle.fill_tokens.specs.declared.token.Token.TheVariants.{Start, End}
use Rattle.fill_tokens.specs.declared.token_set.TokenSet.{TokenSet}
use Rattle.fill_tree.specs.Tree.{SourceTree, AtomTree, Atoms, col, select, constant, whole, sub, end, more}
use Rattle.fill_tree.specs.Grammar.{HasPart, number_of_atoms, source_depth}
use Rattle.fill_tree.specs.Switch.{CaseTree, SwitchTree}
use Rattle.fill_tree.specs.declared.guard.Literal.{Literal}
use Rattle.fill_tree.specs.declared.guard.Guard.{Guard}

-- a number counts from 1, and has 32 bits
abbrev pub IsNumber : ℕ → Type 0
IsNumber n = (1 ≤ n) × (n < 2 ^ 32)

abbrev mutual
  -- a lookup has one to three conditions, of which one at least is no constant
  pub IsSource : TokenSet → SourceTree → Type 0
  IsSource token_set (col c) = IsNumber c
  IsSource token_set (select column table key conditions) =
      IsNumber column × IsNumber table × IsNumber key × (number_of_atoms conditions ≤ 3) × HasPart conditions × AreConditions token_set conditions

  pub IsCondition : TokenSet → AtomTree → Type 0
  IsCondition token_set (constant t) = All IsScalar t
  IsCondition token_set (whole s) = IsSource token_set s
  IsCondition token_set (sub s p q) = IsSource token_set s × IsPlaceOf token_set p × IsPlaceOf token_set q

  pub AreConditions : TokenSet → Atoms → Type 0
  AreConditions token_set end = Unit {0}
  AreConditions token_set (more a rest) = IsCondition token_set a × AreConditions token_set rest

-- an atom of a program: its constant is not empty, and at most three lookups stand inside each other
abbrev pub IsAtom : TokenSet → AtomTree → Type 0
IsAtom token_set (constant t) = (t ≢ []) × All IsScalar t
IsAtom token_set (whole s) = IsSource token_set s × (source_depth s ≤ 3)
IsAtom token_set (sub s p q) = IsSource token_set s × (source_depth s ≤ 3) × IsPlaceOf token_set p × IsPlaceOf token_set q

abbrev pub IsProgram : TokenSet → Atoms → Type 0
IsProgram token_set end = Unit {0}
IsProgram token_set (more a rest) = IsAtom token_set a × IsProgram token_set rest

-- a literal asks for one to three matches of one or two tokens of the set, the start of the text only first and its end only last
pub record IsLiteral (token_set : TokenSet) (l : Literal) : Type 0 where
  pub column : IsNumber l.column
  pub some : 1 ≤ length l.seq
  pub few : length l.seq ≤ 2
  pub start : OnlyFirst Start l.seq
  pub finish : OnlyLast End l.seq
  pub tokens : AreTokensOf token_set l.seq
  pub least : 1 ≤ l.least
  pub most : l.least ≤ 3

abbrev pub IsGuard : TokenSet → Guard → Type 0
IsGuard token_set g = IsLiteral token_set g.first × IfSome g.second (IsLiteral token_set)

abbrev pub IsCase : TokenSet → CaseTree → Type 0
IsCase token_set c = IsGuard token_set c.guard × IsProgram token_set c.program

abbrev pub AreCases : TokenSet → List CaseTree → Type 0
AreCases token_set [] = Unit {0}
AreCases token_set (c ∷ rest) = IsCase token_set c × AreCases token_set rest

-- at most seven cases
abbrev pub IsSwitch : TokenSet → SwitchTree → Type 0
IsSwitch token_set s = (length s.cases ≤ 7) × AreCases token_set s.cases × IsProgram token_set s.last
