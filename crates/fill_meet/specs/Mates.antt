-- Sets of places that share a place.
use Rattle.std.specs.Prelude.{◌≡◌, ◌⊎◌, ℕ, ◌%◌, ◌<◌, ◌≤◌, List, length, Some, slice_get}
use Rattle.fill_tokens.specs.declared.place.Place.{Place}
use Rattle.fill_arena.specs.Contents.{EachIn, SomeIn}
use Rattle.fill_arena.specs.Hash.{place_hash}
use Rattle.fill_arena.specs.Stands.{PlaceStands}
use Rattle.fill_arena.specs.declared.entry.Entry.{Entry}
use Rattle.fill_meet.specs.Groups.{AreGroupsOf}
use Rattle.fill_meet.specs.Meet.{AreApart}
use Rattle.fill_meet.specs.Runs.{HasIn}
use Rattle.fill_meet.specs.declared.holders.Holder.{Holder}
use Rattle.fill_meet.specs.declared.holders.Holders.{Holders}
use Rattle.fill_meet.specs.declared.mates.Mated.{Mated}
use Rattle.fill_meet.specs.declared.mates.Mates.{Mates}

-- the set of the number holds the place
abbrev pub IsHolder : Place → ℕ → Holder → Type 0
IsHolder p n h = (h.hash ≡ place_hash 0 p) × (h.set ≡ n)

-- for each place of each set a holder
pub record AreHolders (c : List Entry) (sets : List ℕ) (list : List Holder) : Type 0 where
  pub each : (n s : ℕ) (p : Place) → slice_get sets n ≡ Some s → PlaceStands c s p → SomeIn (IsHolder p n) list

-- the holders in groups by their hashes
pub record AreHeld (c : List Entry) (sets : List ℕ) (h : Holders) : Type 0 where
  pub holders : AreHolders c sets h.list.items
  pub some : 0 < length h.groups.firsts.items
  pub groups : AreGroupsOf (λ x. x.hash % length h.groups.firsts.items) h.list.items h.groups

-- each of the sets that shares a place with s is in the run
pub record IsMated (c : List Entry) (sets numbers : List ℕ) (m : Mated) : Type 0 where
  pub order : m.run.start ≤ m.run.end
  pub within : m.run.end ≤ length numbers
  pub each : (n t : ℕ) → slice_get sets n ≡ Some t → HasIn numbers m.run n ⊎ AreApart PlaceStands c m.set t

-- the sets that were asked for, with their mates
abbrev pub AreMates : List Entry → List ℕ → Mates → Type 0
AreMates c sets m = EachIn (IsMated c sets m.lists.numbers.items) m.mate_runs.items
