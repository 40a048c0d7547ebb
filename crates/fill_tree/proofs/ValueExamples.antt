-- What some trees give on a sheet of one row, `pen`, and a table of prices by item and year, and which of them are in the
-- grammar.
use Rattle.std.proofs.Common.{◌≡◌, ℕ, zero, suc, ◌<◌, List, [], ◌∷◌, None, Contains, pos, refl, inl, inr, ap, subst, length, get_or, lit<, lit≤, arith}
use Rattle.std.specs.Char.{IsScalar}
use Rattle.fill_text.specs.Data.{SheetData, TableData}
use Rattle.fill_tokens.specs.declared.place.Place.TheVariants.{CPos}
use Rattle.fill_tree.specs.Tree.{SourceTree, col, select, constant, whole, sub, end, more}
use Rattle.fill_tree.specs.Grammar.{AreNumbersOf, IsSource, InGrammar, HasPart}
use Rattle.fill_tree.specs.declared.profile.TheConstants.Profile as profile
use Rattle.fill_tree.specs.declared.user.Settings.{Settings}
use Rattle.fill_tree.specs.declared.user.Constants.TheVariants.{Any}
use Rattle.fill_tree.specs.Value.{SourceIs, AtomIs, ConditionIs, ProgramIs}

abbrev pen : List ℕ
pen = 112 ∷ 101 ∷ 110 ∷ []

abbrev cup : List ℕ
cup = 99 ∷ 117 ∷ 112 ∷ []

-- 11 and 12
abbrev first_year : List ℕ
first_year = 49 ∷ 49 ∷ []

abbrev second_year : List ℕ
second_year = 49 ∷ 50 ∷ []

-- the columns of the item and of the year
abbrev key : List ℕ
key = 1 ∷ 2 ∷ []

abbrev sheet : SheetData
sheet = record { inputs = 2 ∷ []; rows = record { cells = pen ∷ []; given = None } ∷ [] }

-- the prices 1, 2 and 5
abbrev tables : List TableData
tables = record {
  name = [];
  width = 3;
  rows = (pen ∷ first_year ∷ (49 ∷ []) ∷ []) ∷ (pen ∷ second_year ∷ (50 ∷ []) ∷ []) ∷ (cup ∷ first_year ∷ (53 ∷ []) ∷ []) ∷ [];
  keys = key ∷ [];
} ∷ []

-- the price of the row's item in the second year
abbrev price : SourceTree
price = select 3 1 1 (more (whole (col 2)) (more (constant second_year) end))

cell : SourceIs sheet tables 1 (col 2) pen
cell = refl

no_input : (v : List ℕ) → SourceIs sheet tables 1 (col 1) v → ⊥
no_input v h = cc

no_row : (v : List ℕ) → SourceIs sheet tables 2 (col 2) v → ⊥
no_row v h = cc

priced : SourceIs sheet tables 1 price (50 ∷ [])
priced = (pen ∷ second_year ∷ [], 2, ((refl, λ e. cc), (refl, refl)), (key, pen ∷ second_year ∷ (50 ∷ []) ∷ [], refl, refl, refl), refl)

-- the first character, and a piece from a position to itself
initial : AtomIs sheet tables 1 (sub (col 2) (CPos (pos 0)) (CPos (pos 1))) (112 ∷ [])
initial = (pen, 0, 1, refl, (lit≤ tt, refl), (lit≤ tt, refl), lit< tt, refl)

no_piece : (v : List ℕ) → AtomIs sheet tables 1 (sub (col 2) (CPos (pos 1)) (CPos (pos 1))) v → ⊥
no_piece v h = omega (arith, h.4.1, h.5.1, h.6)

-- the empty constant has no value as an atom, and the empty text as a condition
no_empty_constant : (v : List ℕ) → AtomIs sheet tables 1 (constant []) v → ⊥
no_empty_constant v h = h.1 h.0

empty_condition : ConditionIs sheet tables 1 (constant []) []
empty_condition = refl

empty_program : ProgramIs sheet tables 1 end []
empty_program = refl

two_atoms : ProgramIs sheet tables 1 (more (whole price) (more (constant (45 ∷ [])) end)) (50 ∷ 45 ∷ [])
two_atoms = (50 ∷ [], 45 ∷ [], (priced, λ e. cc), (45 ∷ [], [], (refl, λ e. cc), refl, refl), refl)

-- its numbers are those of the table: a key of two columns, and a column that is not one of them
third_is_no_key : (k : ℕ) → k < 2 → get_or key k 3 ≡ 3 → ⊥
third_is_no_key zero h e = absurd (omega arith)
third_is_no_key (suc zero) h e = absurd (omega arith)
third_is_no_key (suc (suc k)) h e = absurd (omega arith)

numbers : AreNumbersOf tables 3 1 1 2
numbers = (key, 3, refl, refl, refl, lit≤ tt, lit≤ tt, λ h. third_is_no_key h.0 h.1 h.2, lit< tt, lit< tt, lit< tt)

are_scalar : (k d : ℕ) → k < 2 → IsScalar (get_or second_year k d)
are_scalar zero d h = refl
are_scalar (suc zero) d h = refl
are_scalar (suc (suc k)) d h = absurd (omega arith)

price_is_source : (settings : Settings) → IsSource settings sheet tables price
price_is_source settings = (numbers, inl tt, (((0, lit< tt, refl), lit< tt), (are_scalar, tt)))

abbrev deep : ℕ → Settings
deep depth = record { depth = depth; constants = Any; profile = profile.FIRST }

price_in_grammar : InGrammar (deep 1) sheet tables (more (whole price) end)
price_in_grammar = ((price_is_source (deep 1), lit≤ tt), tt)

no_lookup : InGrammar (deep 0) sheet tables (more (whole price) end) → ⊥
no_lookup h = omega (arith, h.0.1)

no_empty_atom : InGrammar (deep 1) sheet tables (more (constant []) end) → ⊥
no_empty_atom h = h.0.0 refl

-- a column of the key is not asked for
no_key_column : AreNumbersOf tables 2 1 1 2 → ⊥
no_key_column h = let e : key ≡ h.0 = cc in h.7 (subst (λ columns. Contains columns 2) e (1, lit< tt, refl))

no_condition_too_few : AreNumbersOf tables 3 1 1 1 → ⊥
no_condition_too_few h = let e : key ≡ h.0 = cc in omega (arith, ap length e, h.4)

no_constants_alone : HasPart (more (constant second_year) end) → ⊥
no_constants_alone (inl h) = absurd h
no_constants_alone (inr h) = absurd h
