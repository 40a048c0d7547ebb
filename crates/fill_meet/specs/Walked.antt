-- The graph of the product, before it has a number.
use Rattle.std.specs.Prelude.{◌↔◌, ℕ, ◌-◌, List, length}
use Rattle.fill_tree.specs.Tree.{Atoms}
use Rattle.fill_arena.specs.Contents.{Extends}
use Rattle.fill_arena.specs.Stands.{ProgramStands, Walks}
use Rattle.fill_arena.specs.WellMade.{IsGraphOf}
use Rattle.fill_arena.specs.declared.entry.Entry.{Entry}
use Rattle.fill_trim.specs.declared.trim.Trimmed.{Trimmed}

-- in every arena that extends the later one, its walks have the programs of both graphs
pub record IsWalked (c : List Entry) (a b : ℕ) (d : List Entry) (t : Trimmed) : Type 0 where
  pub graph : IsGraphOf d (length d) t.nodes t.edges
  pub walks : (e : List Entry) → Extends d e → (p : Atoms) → Walks p e t.edges (t.nodes - 1) 0 ↔ (ProgramStands c a p × ProgramStands c b p)
