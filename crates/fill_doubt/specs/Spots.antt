-- The places of a set whose values are found in the shape of a text, and its other places.
use Rattle.std.specs.Prelude.{◌≡◌, ◌↔◌, ℕ, ◌+◌, ◌<◌, List, length, false, Option, Some}
use Rattle.fill_tokens.specs.Value.{HasValue}
use Rattle.fill_tokens.specs.declared.place.Place.{Place}
use Rattle.fill_tokens.specs.declared.place.Place.TheVariants.{CPos, Pos}
use Rattle.fill_tree.specs.Value.{IsValue}
use Rattle.fill_arena.specs.Stands.{PlaceStands}
use Rattle.fill_arena.specs.declared.entry.Entry.{Entry}
use Rattle.fill_doubt.specs.Answers.{Have, PositionsHave}
use Rattle.fill_doubt.specs.declared.spots.Spots.{Spots}

-- the place lies between two sequences, which are not both empty
abbrev pub IsShaped : Place → Type 0
IsShaped (CPos j) = ⊥
IsShaped (Pos r s j) = 0 < length r + length s

-- such a place of the set has this value in the text, or has none
abbrev pub ShapedGives : List Entry → ℕ → List ℕ → Option ℕ → Type 0
ShapedGives c s w o = (p : Place) × PlaceStands c s p × IsShaped p × IsValue (HasValue p w) o

-- another place of the set
abbrev pub OtherStands : List Entry → ℕ → Option Place → Type 0
OtherStands c s o = (p : Place) × PlaceStands c s p × (o ≡ Some p) × ¬ (IsShaped p)

abbrev pub OthersHave : Spots → Option Place → Type 0
OthersHave f = Have (λ p. p) f.others.items false

-- the values in the text of the set's places between sequences, and its other places
pub record AreSpotsOf (c : List Entry) (s : ℕ) (w : List ℕ) (f : Spots) : Type 0 where
  pub shaped : (o : Option ℕ) → PositionsHave f.shaped o ↔ ShapedGives c s w o
  pub others : (o : Option Place) → OthersHave f o ↔ OtherStands c s o
