-- Which programs explain examples, and which of them is chosen.
use Rattle.std.specs.Prelude.{List, All}
use Rattle.fill_text.specs.Data.{SheetData, TableData}
use Rattle.fill_tokens.specs.declared.prices.Prices.{Prices}
use Rattle.fill_tree.specs.Tree.{Atoms}
use Rattle.fill_tree.specs.Grammar.{InGrammar}
use Rattle.fill_tree.specs.Order.{Before}
use Rattle.fill_tree.specs.Value.{ProgramIs}
use Rattle.fill_tree.specs.declared.user.Settings.{Settings}
use Rattle.fill_tree.specs.declared.user.Example.{Example}

-- the program is in the grammar, and its value on each example's row is the example's text
pub record Explains (settings : Settings) (sheet : SheetData) (tables : List TableData) (examples : List Example) (p : Atoms) : Type 0 where
  pub in_grammar : InGrammar settings sheet tables p
  pub values : All (λ e. ProgramIs sheet tables e.row p e.text) examples

-- some program explains the examples
abbrev pub Fits : Settings → SheetData → List TableData → List Example → Type 0
Fits settings sheet tables examples = (p : Atoms) × Explains settings sheet tables examples p

-- the program has the property, and no program of the property is before it by the prices
pub record IsLeast (prices : Prices) (P : Atoms → Type 0) (p : Atoms) : Type 0 where
  pub has : P p
  pub least : (q : Atoms) → P q → ¬ (Before prices q p)

-- the program that is chosen for the examples, by the prices of the settings
abbrev pub IsChosen : Settings → SheetData → List TableData → List Example → Atoms → Type 0
IsChosen settings sheet tables examples = IsLeast settings.profile.prices (Explains settings sheet tables examples)
