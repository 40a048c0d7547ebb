-- What is known of graphs that were built for single examples, and of sets of places that were found for them.
use Rattle.std.specs.Prelude.{◌≡◌, ℕ, List, [], ◌∷◌, Some, nat_eq}
use Rattle.std.specs.HashMap.{get}
use Rattle.fill_arena.specs.declared.entry.Entry.{Entry}
use Rattle.fill_sources.specs.Found.{PlacesStand}
use Rattle.fill_space.specs.Ground.{Ground}
use Rattle.fill_space.specs.Spaces.{SpaceStands, spaces_over}
use Rattle.fill_space.specs.declared.built.Built.{Built}
use Rattle.fill_space.specs.declared.built.BuiltFor.{BuiltFor}

-- the graph stands for the one example of the row with this text
abbrev pub IsBuilt : Ground → List Entry → ℕ → List ℕ → ℕ → Type 0
IsBuilt g c row text graph = SpaceStands (spaces_over g c) graph (record { row = row; text = text } ∷ [])

-- all that is kept is so in the arena
pub record AreBuilt (g : Ground) (c : List Entry) (built : Built) : Type 0 where
  pub each : (row : ℕ) (b : BuiltFor) → get nat_eq built.table row ≡ Some b → IsBuilt g c row b.text b.graph
  pub places : PlacesStand c built.places
