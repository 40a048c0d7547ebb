-- What stands in both of two sets, items or graphs.
use Rattle.std.specs.Prelude.{◌↔◌, ℕ, List}
use Rattle.fill_tree.specs.Tree.{Atoms}
use Rattle.fill_arena.specs.Contents.{Extends, IsGraph}
use Rattle.fill_arena.specs.Stands.{ProgramStands}
use Rattle.fill_arena.specs.declared.entry.Entry.{Entry}

-- in every arena that extends this one, what stands in z is what stands in both x and y, and there is something
pub record AreMet {A S : Type 0} (Has : List Entry → S → A → Type 0) (c : List Entry) (x y z : S) : Type 0 where
  pub both : (d : List Entry) → Extends c d → (a : A) → Has d z a ↔ (Has d x a × Has d y a)
  pub some : (d : List Entry) → Extends c d → (a : A) × Has d z a

-- in none of them anything stands in both
abbrev pub AreApart : {A S : Type 0} → (List Entry → S → A → Type 0) → List Entry → S → S → Type 0
AreApart {A} Has c x y = (d : List Entry) → Extends c d → (a : A) → Has d x a → Has d y a → ⊥

-- no program stands in both graphs
abbrev pub NoneInBoth : List Entry → ℕ → ℕ → Type 0
NoneInBoth c a b = (p : Atoms) → ¬ (ProgramStands c a p × ProgramStands c b p)

-- a graph of the later arena for exactly the programs that stood in both
abbrev pub IsMeet : List Entry → ℕ → ℕ → List Entry → ℕ → Type 0
IsMeet c a b d g = IsGraph d g × ((p : Atoms) → ProgramStands d g p ↔ (ProgramStands c a p × ProgramStands c b p))
