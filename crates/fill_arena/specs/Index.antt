-- The index of an arena: a slot for each number, found by the hash of what stands under it.
use Rattle.std.specs.Prelude.{◌≡◌, ◌≢◌, ℕ, ◌<◌, List, length, Some, slice_get}
use Rattle.fill_arena.specs.Contents.{In, IsAbsent}
use Rattle.fill_arena.specs.Hash.{entry_hash}
use Rattle.fill_arena.specs.declared.entry.Entry.{Entry}
use Rattle.fill_arena.specs.declared.index.Slot.{Slot}
use Rattle.fill_arena.specs.declared.index.Found.{Found}
use Rattle.fill_arena.specs.declared.index.Found.TheVariants.{Known, Free}

-- the slot of the hash at a turn
abbrev pub slot_at : ℕ → ℕ → Slot
slot_at hash turn = record { hash = hash; turn = turn }

-- each number has the slot of its entry's hash at the first turn that none of the older ones has
pub record IsIndexed (c : List Entry) (slots : List Slot) : Type 0 where
  pub long : length slots ≡ length c
  pub hashed : (n : ℕ) (e : Entry) (s : Slot) → slice_get c n ≡ Some e → slice_get slots n ≡ Some s → s.hash ≡ entry_hash e
  pub closed : (n : ℕ) (s : Slot) → slice_get slots n ≡ Some s → (t : ℕ) → t < s.turn → (m : ℕ) × (m < n) × (slice_get slots m ≡ Some (slot_at s.hash t))
  pub once : (m n : ℕ) (s : Slot) → slice_get slots m ≡ Some s → slice_get slots n ≡ Some s → m ≡ n

-- the slot that an entry gets which stands under no number
pub record IsFree (c : List Entry) (slots : List Slot) (e : Entry) (s : Slot) : Type 0 where
  pub absent : IsAbsent c e
  pub hash : s.hash ≡ entry_hash e
  pub fresh : In s slots → ⊥
  pub closed : (t : ℕ) → t < s.turn → In (slot_at s.hash t) slots

-- the number of the entry, or the slot that it gets
abbrev pub IsFound : List Entry → List Slot → Entry → Found → Type 0
IsFound c slots e (Known n) = slice_get c n ≡ Some e
IsFound c slots e (Free s) = IsFree c slots e s

-- the slots of the hash before a turn are taken, each by another entry
abbrev pub AreTaken : List Entry → List Slot → Entry → ℕ → ℕ → Type 0
AreTaken c slots e hash turn = (t : ℕ) → t < turn → (m : ℕ) × (slice_get slots m ≡ Some (slot_at hash t)) × (slice_get c m ≢ Some e)
