-- What is known of the shape of a text.
use Rattle.std.specs.Prelude.{◌≡◌, ℕ, List, Some}
use Rattle.std.specs.Bool.{nat_eq}
use Rattle.std.specs.HashMap.{get}
use Rattle.fill_arena.specs.declared.entry.Entry.{Entry}
use Rattle.fill_doubt.specs.Cuts.{AreCutsOf}
use Rattle.fill_doubt.specs.Spots.{AreSpotsOf}
use Rattle.fill_doubt.specs.declared.read.Read.{Read}
use Rattle.fill_doubt.specs.declared.spots.Spots.{Spots}

-- what was found of the shape is so, and what was found of sets is so of those of the arena
pub record IsReadIn (c : List Entry) (read : Read) : Type 0 where
  pub cuts : AreCutsOf read.text read.cuts
  pub spots : (s : ℕ) (f : Spots) → get nat_eq read.spots s ≡ Some f → AreSpotsOf c s read.text f
