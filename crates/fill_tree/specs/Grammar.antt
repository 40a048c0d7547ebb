-- Which trees the bounded grammar has, for settings, a sheet and tables.
use Rattle.std.specs.Prelude.{◌≡◌, ◌≢◌, ◌⊎◌, ℕ, suc, ◌+◌, ◌<◌, ◌≤◌, ◌^◌, List, [], Some, All, Contains, Bool, true, false, ◌||◌, max, length}
use Rattle.std.specs.Char.{IsScalar}
use Rattle.fill_text.specs.Classes.{is_separator}
use Rattle.fill_text.specs.Data.{SheetData, TableData, key_at, width_at}
use Rattle.fill_tokens.specs.TokenSet.{IsPlaceOf}
use Rattle.fill_tree.specs.Tree.{SourceTree, AtomTree, Atoms, col, select, constant, whole, sub, end, more}
use Rattle.fill_tree.specs.declared.user.Settings.{Settings}
use Rattle.fill_tree.specs.declared.user.Constants.{Constants}
use Rattle.fill_tree.specs.declared.user.Constants.TheVariants.{Any, Separators}

-- what settings keep wherever they are handed in: lookups stand inside each other no deeper than the profile allows, and
-- no profile allows more than three
abbrev pub AreSettings : Settings → Type 0
AreSettings settings = (settings.depth ≤ settings.profile.depth) × (settings.profile.depth ≤ 3)

abbrev pub number_of_atoms : Atoms → ℕ
number_of_atoms end = 0
number_of_atoms (more a rest) = suc (number_of_atoms rest)

-- how many lookups stand inside each other
abbrev mutual
  pub source_depth : SourceTree → ℕ
  source_depth (col c) = 0
  source_depth (select column table key conditions) = 1 + greatest_depth conditions

  pub atom_depth : AtomTree → ℕ
  atom_depth (constant t) = 0
  atom_depth (whole s) = source_depth s
  atom_depth (sub s p q) = source_depth s

  pub greatest_depth : Atoms → ℕ
  greatest_depth end = 0
  greatest_depth (more a rest) = max (atom_depth a) (greatest_depth rest)

-- not a constant
abbrev pub IsPart : AtomTree → Type 0
IsPart (constant t) = ⊥
IsPart (whole s) = Unit {0}
IsPart (sub s p q) = Unit {0}

abbrev pub HasPart : Atoms → Type 0
HasPart end = ⊥
HasPart (more a rest) = IsPart a ⊎ HasPart rest

-- the same as tests
abbrev pub is_part : AtomTree → Bool
is_part (constant t) = false
is_part (whole s) = true
is_part (sub s p q) = true

abbrev pub has_part : Atoms → Bool
has_part end = false
has_part (more a rest) = is_part a || has_part rest

-- the numbers of a lookup belong to the tables: a key of this size, and a column that is not one of its columns
abbrev pub AreNumbersOf : List TableData → ℕ → ℕ → ℕ → ℕ → Type 0
AreNumbersOf tables column table key size = (columns : List ℕ) × (width : ℕ) × (key_at tables table key ≡ Some columns)
    × (width_at tables table ≡ Some width) × (length columns ≡ size) × (1 ≤ column) × (column ≤ width) × ¬ (Contains columns column)
    × (column < 2 ^ 32) × (table < 2 ^ 32) × (key < 2 ^ 32)

-- under the settings, whose profile has the tokens of places
abbrev mutual
  pub IsSource : Settings → SheetData → List TableData → SourceTree → Type 0
  IsSource settings sheet tables (col c) = Contains sheet.inputs c × (c < 2 ^ 32)
  IsSource settings sheet tables (select column table key conditions) =
      AreNumbersOf tables column table key (number_of_atoms conditions) × HasPart conditions × AreConditions settings sheet tables conditions

  -- a condition may be any constant, also the empty one
  pub IsCondition : Settings → SheetData → List TableData → AtomTree → Type 0
  IsCondition settings sheet tables (constant t) = All IsScalar t
  IsCondition settings sheet tables (whole s) = IsSource settings sheet tables s
  IsCondition settings sheet tables (sub s p q) = IsSource settings sheet tables s × IsPlaceOf settings.profile.tokens p × IsPlaceOf settings.profile.tokens q

  pub AreConditions : Settings → SheetData → List TableData → Atoms → Type 0
  AreConditions settings sheet tables end = Unit {0}
  AreConditions settings sheet tables (more a rest) = IsCondition settings sheet tables a × AreConditions settings sheet tables rest

-- the characters that a program's constants may have
abbrev pub Allows : Constants → List ℕ → Type 0
Allows Any t = Unit {0}
Allows Separators t = All (λ c. is_separator c ≡ true) t

-- an atom of a program: a constant is not empty, and a source is no deeper than the settings allow
abbrev pub IsAtom : Settings → SheetData → List TableData → AtomTree → Type 0
IsAtom settings sheet tables (constant t) = (t ≢ []) × All IsScalar t × Allows settings.constants t
IsAtom settings sheet tables (whole s) = IsSource settings sheet tables s × (source_depth s ≤ settings.depth)
IsAtom settings sheet tables (sub s p q) = IsSource settings sheet tables s × (source_depth s ≤ settings.depth) × IsPlaceOf settings.profile.tokens p × IsPlaceOf settings.profile.tokens q

abbrev pub InGrammar : Settings → SheetData → List TableData → Atoms → Type 0
InGrammar settings sheet tables end = Unit {0}
InGrammar settings sheet tables (more a rest) = IsAtom settings sheet tables a × InGrammar settings sheet tables rest
