-- What was found of an arena's sets.
use Rattle.std.specs.Prelude.{◌≡◌, ℕ, List, Some}
use Rattle.std.specs.HashMap.{get}
use Rattle.std.specs.Bool.{nat_eq}
use Rattle.fill_tokens.specs.Place.{place_cmp}
use Rattle.fill_tokens.specs.Prices.{place_cost}
use Rattle.fill_tokens.specs.declared.prices.Prices.{Prices}
use Rattle.fill_tree.specs.Cost.{source_cost, atom_cost}
use Rattle.fill_tree.specs.Order.{source_cmp, atom_cmp}
use Rattle.fill_arena.specs.Stands.{AtomStands, PlaceStands, SourceStands, PartStands}
use Rattle.fill_arena.specs.declared.entry.Entry.{Entry}
use Rattle.fill_best.specs.Cheapest.{AreCheapest}
use Rattle.fill_best.specs.declared.memo.Memo.{Memo}

-- each of them is the first k of its set
pub record IsMemoOf (prices : Prices) (c : List Entry) (k : ℕ) (memo : Memo) : Type 0 where
  pub places : (s : ℕ) (o : _) → get nat_eq memo.places s ≡ Some o → AreCheapest (place_cost prices) place_cmp (PlaceStands c s) k o.value.items
  pub sources : (s : ℕ) (o : _) → get nat_eq memo.sources s ≡ Some o → AreCheapest (source_cost prices) source_cmp (SourceStands c s) k o.value.items
  pub parts : (s : ℕ) (o : _) → get nat_eq memo.parts s ≡ Some o → AreCheapest (atom_cost prices) atom_cmp (PartStands c s) k o.value.items
  pub atoms : (s : ℕ) (o : _) → get nat_eq memo.atoms s ≡ Some o → AreCheapest (atom_cost prices) atom_cmp (AtomStands c s) k o.value.items
