-- The graph of one example.
use Rattle.std.specs.Prelude.{◌↔◌, ℕ, List, [], ◌∷◌}
use Rattle.fill_text.specs.Data.{SheetData, TableData}
use Rattle.fill_tree.specs.Tree.{Atoms}
use Rattle.fill_tree.specs.Chosen.{Explains}
use Rattle.fill_tree.specs.declared.user.Settings.{Settings}
use Rattle.fill_tree.specs.declared.user.Example.{Example}
use Rattle.fill_arena.specs.Contents.{IsGraph}
use Rattle.fill_arena.specs.Stands.{ProgramStands}
use Rattle.fill_arena.specs.declared.entry.Entry.{Entry}

-- the example of the row with this text
abbrev pub example : ℕ → List ℕ → Example
example row text = record { row = row; text = text }

-- no program explains the example
abbrev pub NoneExplains : Settings → SheetData → List TableData → ℕ → List ℕ → Type 0
NoneExplains settings sheet tables row text = (p : Atoms) → ¬ (Explains settings sheet tables (example row text ∷ []) p)

-- the number is a graph in which exactly the programs stand that explain the example, and some does
pub record IsGraphOfExample (settings : Settings) (sheet : SheetData) (tables : List TableData) (row : ℕ) (text : List ℕ) (c : List Entry) (g : ℕ) : Type 0 where
  pub graph : IsGraph c g
  pub exact : (p : Atoms) → ProgramStands c g p ↔ Explains settings sheet tables (example row text ∷ []) p
  pub some : (p : Atoms) × Explains settings sheet tables (example row text ∷ []) p
