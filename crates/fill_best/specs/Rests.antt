-- The first rests of programs of a graph.
use Rattle.std.specs.Prelude.{◌≡◌, ℕ, List, Some, slice_get}
use Rattle.fill_tree.specs.Cost.{program_cost}
use Rattle.fill_tree.specs.Order.{atoms_cmp}
use Rattle.fill_tree.specs.Tree.{Atoms}
use Rattle.fill_arena.specs.Stands.{Walks}
use Rattle.fill_arena.specs.declared.entry.Edge.{Edge}
use Rattle.fill_arena.specs.declared.entry.Entry.{Entry}
use Rattle.fill_best.specs.Cheapest.{AreCheapest}
use Rattle.std.proofs.Common.{Vec, Global}
use Rattle.fill_tokens.specs.declared.prices.Prices.{Prices}
use Rattle.fill_best.specs.declared.costed.Costed.{Costed}

-- for each node the first programs that walks over the edges from it to the last node have
pub record AreFirstRests (prices : Prices) (c : List Entry) (edges : List Edge) (last k : ℕ) (table : List (Vec (Costed Atoms) Global)) : Type 0 where
  pub each : (n : ℕ) (o : Vec (Costed Atoms) Global) → slice_get table n ≡ Some o → AreCheapest (program_cost prices) atoms_cmp (λ p. Walks p c edges last n) k o.items
