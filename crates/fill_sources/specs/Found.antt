-- What is kept of the places of texts from row to row.
use Rattle.std.specs.Prelude.{◌≡◌, ℕ, List, None, Some, slice_get}
use Rattle.std.specs.BTreeMap.{get}
use Rattle.std.specs.Ordering.{nat_cmp}
use Rattle.fill_tokens.specs.declared.token_set.TokenSet.{TokenSet}
use Rattle.fill_arena.specs.Contents.{Extends}
use Rattle.fill_arena.specs.declared.entry.Entry.{Entry}
use Rattle.fill_sources.specs.Gives.{ArePlacesOf}
use Rattle.fill_sources.specs.declared.memo.TextPlaces.{TextPlaces}
use Rattle.fill_sources.specs.declared.memory.Found.{Found}
use Rattle.fill_sources.specs.declared.memory.Found.TheVariants.{NotYet, Nowhere, In}
use Rattle.fill_sources.specs.declared.memory.StoredText.{StoredText}
use Rattle.fill_sources.specs.declared.memory.PlaceMemory.{PlaceMemory}

-- what was found of position k of the text is so in the arena, and in each that extends it
abbrev pub IsFound : TokenSet → List Entry → List ℕ → ℕ → Found → Type 0
IsFound token_set c v k NotYet = Unit {0}
IsFound token_set c v k Nowhere = (d : List Entry) → Extends c d → ArePlacesOf token_set d v k None
IsFound token_set c v k (In s) = (d : List Entry) → Extends c d → ArePlacesOf token_set d v k (Some s)

-- .. of each position
abbrev pub AreFound : TokenSet → List Entry → List ℕ → List Found → Type 0
AreFound token_set c v found = (k : ℕ) (f : Found) → slice_get found k ≡ Some f → IsFound token_set c v k f

-- .. of the texts, by their numbers
abbrev pub AreRecalled : TokenSet → List Entry → List (List ℕ) → List TextPlaces → Type 0
AreRecalled token_set c texts places = (i : ℕ) (t : TextPlaces) (v : List ℕ) → slice_get places i ≡ Some t → slice_get texts i ≡ Some v → AreFound token_set c v t.found.items

-- all that is kept is so in the arena
pub record PlacesStand (c : List Entry) (m : PlaceMemory) : Type 0 where
  pub each : (hash : ℕ) (k : StoredText) → get nat_cmp m.texts hash ≡ Some k → AreFound k.token_set c k.text k.found.items
