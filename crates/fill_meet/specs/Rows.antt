-- Rows: the sets of a graph that may have an atom in common with a given one.
use Rattle.std.specs.Prelude.{◌≡◌, ◌⊎◌, ℕ, ◌<◌, ◌≤◌, List, length, Option, Some, IfSome, slice_get}
use Rattle.fill_arena.specs.Contents.{EachIn}
use Rattle.fill_arena.specs.Stands.{AtomStands}
use Rattle.fill_arena.specs.declared.entry.AtomItem.{AtomItem}
use Rattle.fill_arena.specs.declared.entry.Entry.{Entry}
use Rattle.fill_meet.specs.Index.{IsListed, piece_hash}
use Rattle.fill_meet.specs.Mates.{AreMates}
use Rattle.fill_meet.specs.Meet.{AreApart}
use Rattle.fill_meet.specs.Runs.{HasFrom, HasIn}
use Rattle.fill_meet.specs.Sets.{AtomIn}
use Rattle.fill_meet.specs.Verdicts.{AreVerdicts}
use Rattle.fill_meet.specs.declared.index.Index.{Index}
use Rattle.fill_meet.specs.declared.index.Item.{Item}
use Rattle.fill_meet.specs.declared.rows.Slot.{Slot}
use Rattle.fill_meet.specs.declared.rows.Rows.{Rows}
use Rattle.fill_meet.specs.declared.rows.Search.{Search}
use Rattle.fill_meet.specs.declared.runs.Run.{Run}

-- what a search remembers is so
pub record IsSearch (c : List Entry) (i : Index) (s : Search) : Type 0 where
  pub mates : AreMates c i.places.sets.items s.mates
  pub verdicts : AreVerdicts c s.findings.verdicts

-- the set is in the list from the start on, or its item has nothing in common with x
abbrev pub IsCovered : List Entry → List ℕ → ℕ → AtomItem → ℕ → ℕ → AtomItem → Type 0
IsCovered c numbers start x n j y = HasFrom numbers start n ⊎ AreApart AtomIn c x y

-- P holds of the item of an entry, if it is found by the hash
pub record IsEntryDone (c : List Entry) (i : Index) (P : ℕ → ℕ → AtomItem → Type 0) (hash e : ℕ) : Type 0 where
  pub each : (z : Item) (y : AtomItem) → slice_get i.items.items e ≡ Some z → z.hash ≡ hash → IsListed c i.labels.sets.items z.set z.place y → P z.set z.place y

-- so for all entries
pub record AreAlikeDone (c : List Entry) (i : Index) (P : ℕ → ℕ → AtomItem → Type 0) (hash : ℕ) : Type 0 where
  pub each : (e : ℕ) → IsEntryDone c i P hash e

-- so for pieces that begin at places of the set l and end at those of a set in the list of mates, from a place up to another
pub record AreEndsDone (c : List Entry) (i : Index) (P : ℕ → ℕ → AtomItem → Type 0) (mates : List ℕ) (l from to : ℕ) : Type 0 where
  pub each : (k r : ℕ) → from ≤ k → k < to → slice_get mates k ≡ Some r → AreAlikeDone c i P (piece_hash l r)

-- so for pieces that begin at a mate of the one run and end at one of the other
pub record ArePiecesDone (c : List Entry) (i : Index) (P : ℕ → ℕ → AtomItem → Type 0) (mates : List ℕ) (begins ends : Run) : Type 0 where
  pub each : (k l : ℕ) → begins.start ≤ k → k < begins.end → slice_get mates k ≡ Some l → AreEndsDone c i P mates l ends.start ends.end

-- so for each item of each set
pub record AreDone (c : List Entry) (labels : List ℕ) (P : ℕ → ℕ → AtomItem → Type 0) : Type 0 where
  pub each : (n j : ℕ) (y : AtomItem) → IsListed c labels n j y → P n j y

-- each set is in the run, or has nothing in common with s
pub record IsRow (c : List Entry) (labels numbers : List ℕ) (s : ℕ) (run : Run) : Type 0 where
  pub order : run.start ≤ run.end
  pub within : run.end ≤ length numbers
  pub each : (n t : ℕ) → slice_get labels n ≡ Some t → HasIn numbers run n ⊎ AreApart AtomStands c s t

-- what a slot tells is so
abbrev pub IsRowTold : List Entry → List ℕ → List ℕ → Option Slot → Type 0
IsRowTold c labels numbers r = IfSome r (λ slot. IsRow c labels numbers slot.set slot.row)

-- rows of sets of the first graph
pub record AreRows (c : List Entry) (i : Index) (r : Rows) : Type 0 where
  pub search : IsSearch c i r.search
  pub slots : EachIn (IsRowTold c i.labels.sets.items r.search.findings.rows.numbers.items) r.slots.items
