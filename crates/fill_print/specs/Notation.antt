-- The notation of trees: each tree's one spelling.
use Rattle.std.specs.Prelude.{ℕ, List, [], ◌∷◌, ◌++◌, codes, encode_utf8, Option, Some, None, ◌==◌, if◌then◌else◌}
use Rattle.std.specs.Fmt.{decimal, signed_decimal}
use Rattle.fill_tokens.specs.Token.{token_name}
use Rattle.fill_tokens.specs.declared.token.Token.{Token}
use Rattle.fill_tokens.specs.declared.place.Place.{Place}
use Rattle.fill_tokens.specs.declared.place.Place.TheVariants.{CPos, Pos}
use Rattle.fill_tree.specs.Switch.{CaseTree, SwitchTree}
use Rattle.fill_tree.specs.declared.guard.Literal.{Literal}
use Rattle.fill_tree.specs.declared.guard.Guard.{Guard}
use Rattle.fill_tree.specs.Tree.{SourceTree, AtomTree, Atoms, col, select, constant, whole, sub, end, more}

-- the tokens' names after the first one, each behind a blank
abbrev pub more_names : List Token → List ℕ
more_names [] = []
more_names (t ∷ ts) = 32 ∷ token_name t ++ more_names ts

abbrev pub names : List Token → List ℕ
names [] = []
names (t ∷ ts) = token_name t ++ more_names ts

abbrev pub seq_text : List Token → List ℕ
seq_text ts = 91 ∷ names ts ++ codes "]"

abbrev pub place_text : Place → List ℕ
place_text (CPos k) = codes "CPos(" ++ signed_decimal k ++ codes ")"
place_text (Pos r s c) = codes "Pos(" ++ seq_text r ++ codes "," ++ seq_text s ++ codes "," ++ signed_decimal c ++ codes ")"

-- a quote and a backslash stand behind a backslash
abbrev pub char_text : ℕ → List ℕ
char_text c = if c == 39 then 92 ∷ 39 ∷ [] else if c == 92 then 92 ∷ 92 ∷ [] else encode_utf8 c

abbrev pub chars_text : List ℕ → List ℕ
chars_text [] = []
chars_text (c ∷ cs) = char_text c ++ chars_text cs

abbrev mutual
  pub source_text : SourceTree → List ℕ
  source_text (col c) = codes "Col(" ++ decimal c ++ codes ")"
  source_text (select column table key conditions) =
      codes "Select(" ++ decimal column ++ codes "," ++ decimal table ++ codes "," ++ decimal key ++ after_commas conditions ++ codes ")"

  pub atom_text : AtomTree → List ℕ
  atom_text (constant t) = codes "Const('" ++ chars_text t ++ codes "')"
  atom_text (whole s) = codes "Whole(" ++ source_text s ++ codes ")"
  atom_text (sub s p q) = codes "Sub(" ++ source_text s ++ codes "," ++ place_text p ++ codes "," ++ place_text q ++ codes ")"

  -- atoms, each behind a comma
  pub after_commas : Atoms → List ℕ
  after_commas end = []
  after_commas (more a rest) = codes "," ++ atom_text a ++ after_commas rest

-- atoms with commas between them
abbrev pub atoms_text : Atoms → List ℕ
atoms_text end = []
atoms_text (more a rest) = atom_text a ++ after_commas rest

abbrev pub program_text : Atoms → List ℕ
program_text p = codes "Concat(" ++ atoms_text p ++ codes ")"

-- a literal, behind a mark where it is negated
abbrev pub literal_text : Literal → List ℕ
literal_text l = (if l.negated then codes "!" else []) ++ codes "Match(" ++ decimal l.column ++ codes "," ++ seq_text l.seq ++ codes "," ++ decimal l.least ++ codes ")"

-- a guard's second literal, where it has one
abbrev pub second_text : Option Literal → List ℕ
second_text None = []
second_text (Some l) = codes "&" ++ literal_text l

abbrev pub guard_text : Guard → List ℕ
guard_text g = literal_text g.first ++ second_text g.second

abbrev pub case_text : CaseTree → List ℕ
case_text c = guard_text c.guard ++ codes "=>" ++ program_text c.program ++ codes ";"

abbrev pub cases_text : List CaseTree → List ℕ
cases_text [] = []
cases_text (c ∷ cs) = case_text c ++ cases_text cs

abbrev pub switch_text : SwitchTree → List ℕ
switch_text s = codes "Switch(" ++ cases_text s.cases ++ codes "else=>" ++ program_text s.last ++ codes ")"
