-- What was found of an arena's sets.
use Rattle.std.specs.Prelude.{◌≡◌, ℕ, List, Option, Some}
use Rattle.std.specs.HashMap.{get}
use Rattle.std.specs.Bool.{nat_eq}
use Rattle.fill_tokens.specs.declared.place.Place.{Place}
use Rattle.fill_tokens.specs.declared.prices.Prices.{Prices}
use Rattle.fill_tree.specs.Meaning.{atom_tree, source_tree}
use Rattle.fill_tree.specs.declared.tree.Atom.{Atom}
use Rattle.fill_tree.specs.declared.tree.Source.{Source}
use Rattle.fill_arena.specs.Stands.{AtomStands, PlaceStands, SourceStands, PartStands}
use Rattle.fill_arena.specs.declared.entry.Entry.{Entry}
use Rattle.fill_arena.specs.Best.{IsBest, IsBestOf}
use Rattle.fill_tree.specs.Order.{place_rank, source_rank, atom_rank}
use Rattle.fill_rank.specs.LowerBounds.{AreBounds}
use Rattle.fill_rank.specs.declared.memo.Memo.{Memo}

-- each of them is the best of its set; the bounds are lower bounds
pub record IsMemoOf (prices : Prices) (c : List Entry) (memo : Memo) : Type 0 where
  pub places : (s : ℕ) (p : Place) → get nat_eq memo.places s ≡ Some p → IsBest (place_rank prices) (PlaceStands c s) p
  pub sources : (s : ℕ) (x : Source) → get nat_eq memo.sources s ≡ Some x → IsBest (source_rank prices) (SourceStands c s) (source_tree x)
  pub parts : (s : ℕ) (o : Option Atom) → get nat_eq memo.parts s ≡ Some o → IsBestOf atom_tree (atom_rank prices) (PartStands c s) o
  pub atoms : (s : ℕ) (a : Atom) → get nat_eq memo.atoms s ≡ Some a → IsBest (atom_rank prices) (AtomStands c s) (atom_tree a)
  pub bounds : AreBounds prices c memo.bounds
