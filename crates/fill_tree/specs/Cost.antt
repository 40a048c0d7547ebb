-- The cost of trees by a table of prices, a whole number without bound.
use Rattle.std.specs.Prelude.{ℕ, ◌+◌, List, sum_by, if◌then◌else◌}
use Rattle.fill_text.specs.Classes.{is_separator}
use Rattle.fill_tokens.specs.Prices.{place_cost}
use Rattle.fill_tokens.specs.declared.prices.Prices.{Prices}
use Rattle.fill_tree.specs.Tree.{SourceTree, AtomTree, Atoms, col, select, constant, whole, sub, end, more}

-- a character of a program's constant
abbrev pub char_cost : Prices → ℕ → ℕ
char_cost prices c = if is_separator c then prices.separator else prices.character

-- a constant as an atom of a program
abbrev pub text_cost : Prices → List ℕ → ℕ
text_cost prices t = prices.constant + sum_by (char_cost prices) t

abbrev mutual
  pub source_cost : Prices → SourceTree → ℕ
  source_cost prices (col c) = prices.column
  source_cost prices (select column table key conditions) = prices.lookup + conditions_cost prices conditions

  -- an atom of a program
  pub atom_cost : Prices → AtomTree → ℕ
  atom_cost prices (constant t) = text_cost prices t
  atom_cost prices (whole s) = prices.whole + source_cost prices s
  atom_cost prices (sub s p q) = prices.piece + source_cost prices s + place_cost prices p + place_cost prices q

  pub conditions_cost : Prices → Atoms → ℕ
  conditions_cost prices end = 0
  conditions_cost prices (more a rest) = condition_cost prices a + conditions_cost prices rest

  -- a condition of a lookup: every constant costs the same
  pub condition_cost : Prices → AtomTree → ℕ
  condition_cost prices (constant t) = prices.constant_condition
  condition_cost prices (whole s) = prices.condition + (prices.whole + source_cost prices s)
  condition_cost prices (sub s p q) = prices.condition + (prices.piece + source_cost prices s + place_cost prices p + place_cost prices q)

abbrev pub program_cost : Prices → Atoms → ℕ
program_cost prices end = 0
program_cost prices (more a rest) = prices.atom + atom_cost prices a + program_cost prices rest
