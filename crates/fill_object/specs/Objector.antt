-- The programs of a graph that answer otherwise on a row than was said, and the least of them.
use Rattle.std.specs.Prelude.{ℕ, ◌<◌, List, Option}
use Rattle.fill_text.specs.Data.{SheetData, TableData}
use Rattle.fill_tokens.specs.declared.prices.Prices.{Prices}
use Rattle.fill_tree.specs.Chosen.{IsLeast}
use Rattle.fill_tree.specs.Cost.{program_cost}
use Rattle.fill_tree.specs.Meaning.{program_tree}
use Rattle.fill_tree.specs.Tree.{Atoms}
use Rattle.fill_tree.specs.Value.{IsValue, ProgramIs}
use Rattle.fill_arena.specs.Stands.{ProgramStands}
use Rattle.fill_arena.specs.declared.entry.Entry.{Entry}
use Rattle.fill_object.specs.declared.graph.Objection.{Objection}

-- the program's value on the row is what was said: a text, or none
abbrev pub Answers : SheetData → List TableData → ℕ → Option (List ℕ) → Atoms → Type 0
Answers sheet tables row answer p = IsValue (ProgramIs sheet tables row p) answer

-- the program stands in the graph, and its value on the row is not what was said
pub record Objects (c : List Entry) (g : ℕ) (sheet : SheetData) (tables : List TableData) (row : ℕ) (answer : Option (List ℕ)) (p : Atoms) : Type 0 where
  pub stands : ProgramStands c g p
  pub otherwise : ¬ (Answers sheet tables row answer p)

-- the program objects, and no program that does is before it by the prices; with its value on the row
pub record IsObjection (prices : Prices) (c : List Entry) (g : ℕ) (sheet : SheetData) (tables : List TableData) (row : ℕ) (answer : Option (List ℕ)) (o : Objection) : Type 0 where
  pub least : IsLeast prices (Objects c g sheet tables row answer) (program_tree o.program)
  pub value : IsValue (ProgramIs sheet tables row (program_tree o.program)) o.text

-- each program that objects costs more
abbrev pub AllDearer : Prices → List Entry → ℕ → SheetData → List TableData → ℕ → Option (List ℕ) → ℕ → Type 0
AllDearer prices c g sheet tables row answer limit = (p : Atoms) → Objects c g sheet tables row answer p → limit < program_cost prices p
