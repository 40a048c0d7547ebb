-- What was found of places in texts.
use Rattle.std.specs.Prelude.{List}
use Rattle.fill_tokens.specs.declared.prices.Prices.{Prices}
use Rattle.fill_arena.specs.Contents.{EachIn}
use Rattle.fill_arena.specs.Stands.{PlaceStands}
use Rattle.fill_arena.specs.declared.entry.Entry.{Entry}
use Rattle.fill_object.specs.Kinds.{spots_in}
use Rattle.fill_object.specs.Leasts.{AreLeasts}
use Rattle.fill_object.specs.declared.spots.Spotted.{Spotted}
use Rattle.fill_object.specs.declared.spots.Spots.{Spots}

-- the spots are the least places of the set in the text, by their values
abbrev pub IsSpotted : Prices → List Entry → Spotted → Type 0
IsSpotted prices c x = AreLeasts (spots_in prices x.text) (PlaceStands c x.set) x.spots.value.items

pub record AreSpotted (prices : Prices) (c : List Entry) (spots : Spots) : Type 0 where
  pub each : EachIn (IsSpotted prices c) spots.readings.items
