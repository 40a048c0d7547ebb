-- What atoms of sets, edges and rests of programs cost at least.
use Rattle.std.specs.Prelude.{◌≡◌, ℕ, ◌+◌, ◌≤◌, List, Option, None, Some, slice_get}
use Rattle.std.specs.HashMap.{get}
use Rattle.std.specs.Bool.{nat_eq}
use Rattle.fill_tokens.specs.Prices.{place_cost}
use Rattle.fill_tokens.specs.declared.place.Place.{Place}
use Rattle.fill_tokens.specs.declared.prices.Prices.{Prices}
use Rattle.fill_tree.specs.Cost.{atom_cost}
use Rattle.fill_tree.specs.Tree.{AtomTree}
use Rattle.fill_arena.specs.Stands.{AtomStands, PlaceStands}
use Rattle.fill_arena.specs.declared.entry.Edge.{Edge}
use Rattle.fill_arena.specs.declared.entry.Entry.{Entry}
use Rattle.fill_object.specs.declared.bounds.Bounds.{Bounds}
use Rattle.fill_object.specs.declared.costs.Costs.{Costs}

-- each place of the set costs as much at least
abbrev pub IsPlaceLeast : Prices → List Entry → ℕ → ℕ → Type 0
IsPlaceLeast prices c s n = (p : Place) → PlaceStands c s p → n ≤ place_cost prices p

pub record AreCosts (prices : Prices) (c : List Entry) (costs : Costs) : Type 0 where
  pub places : (s : ℕ) (n : ℕ) → get nat_eq costs.places s ≡ Some n → IsPlaceLeast prices c s n

abbrev pub or_nothing : Option ℕ → ℕ
or_nothing None = 0
or_nothing (Some n) = n

-- the number at a place; 0 past the end
abbrev pub number_at : List ℕ → ℕ → ℕ
number_at xs i = or_nothing (slice_get xs i)

-- one more atom along an edge costs as much at least
pub record AreEdgeCosts (prices : Prices) (c : List Entry) (edges : List Edge) (costs : List ℕ) : Type 0 where
  pub each : (k : ℕ) (e : Edge) → slice_get edges k ≡ Some e → (a : AtomTree) → AtomStands c e.atoms a → number_at costs k ≤ prices.atom + atom_cost prices a

-- the end costs nothing, and what a rest costs along an edge is no less than what one from the edge's first node costs
pub record AreRestCosts (edges : List Edge) (costs rests : List ℕ) (last : ℕ) : Type 0 where
  pub ends : number_at rests last ≤ 0
  pub each : (k : ℕ) (e : Edge) → slice_get edges k ≡ Some e → number_at rests e.from ≤ number_at costs k + number_at rests e.to

pub record AreBounds (prices : Prices) (c : List Entry) (edges : List Edge) (last : ℕ) (bounds : Bounds) : Type 0 where
  pub along : AreEdgeCosts prices c edges bounds.edges.items
  pub rests : AreRestCosts edges bounds.edges.items bounds.rests.items last
