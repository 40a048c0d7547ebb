-- What is known of the weights of graphs.
use Rattle.std.specs.Prelude.{◌≡◌, ℕ, List, Some, nat_eq}
use Rattle.std.specs.HashMap.{get}
use Rattle.fill_tokens.specs.declared.prices.Prices.{Prices}
use Rattle.fill_tree.specs.Chosen.{IsLeast}
use Rattle.fill_tree.specs.Cost.{program_cost}
use Rattle.fill_tree.specs.Tree.{Atoms}
use Rattle.fill_arena.specs.Contents.{IsGraph}
use Rattle.fill_arena.specs.Stands.{ProgramStands}
use Rattle.fill_arena.specs.declared.entry.Entry.{Entry}
use Rattle.fill_space.specs.declared.weights.Weights.{Weights}

-- it is a graph of the arena, and the least program that stands in it costs this much
pub record IsWeighed (prices : Prices) (c : List Entry) (k cost : ℕ) : Type 0 where
  pub graph : IsGraph c k
  pub program : Atoms
  pub least : IsLeast prices (ProgramStands c k) program
  pub costs : program_cost prices program ≡ cost

-- all that is kept is so in the arena
pub record AreWeighed (prices : Prices) (c : List Entry) (weights : Weights) : Type 0 where
  pub each : (k cost : ℕ) → get nat_eq weights.table k ≡ Some cost → IsWeighed prices c k cost
