-- How an arena keeps its entries: items, and slices of a pool of places.
use Rattle.std.specs.Prelude.{◌≡◌, ℕ, ◌+◌, List, [], ◌∷◌, slice_index_or}
use Rattle.fill_tokens.specs.declared.place.Place.{Place}
use Rattle.fill_arena.specs.Contents.{EachIn}
use Rattle.fill_arena.specs.Order.{LeadsOn}
use Rattle.fill_arena.specs.declared.entry.Entry.{Entry}
use Rattle.fill_arena.specs.declared.entry.Entry.TheVariants as kind
use Rattle.fill_arena.specs.declared.entries.Content.{Content}
use Rattle.fill_arena.specs.declared.entries.Content.TheVariants as lent
use Rattle.fill_arena.specs.declared.entries.Stored.{Stored}
use Rattle.fill_arena.specs.declared.entries.Stored.TheVariants.{Places, Sources, Atom, Atoms, Graph}

-- the entry that is lent
abbrev pub entry_of : Content → Entry
entry_of (lent.Places xs) = kind.Places xs.now
entry_of (lent.Sources xs) = kind.Sources xs.now
entry_of (lent.Atoms xs) = kind.Atoms xs.now
entry_of (lent.Graph n xs) = kind.Graph n xs.now

-- the entry that is kept, over the slices of a pool
abbrev pub entry_at : List (List Place) → Stored → Entry
entry_at slices (Places s m) = kind.Places (slice_index_or slices s [])
entry_at slices (Sources xs) = kind.Sources xs
entry_at slices (Atom x) = kind.Atoms (x ∷ [])
entry_at slices (Atoms xs) = kind.Atoms xs
entry_at slices (Graph n xs) = kind.Graph n xs.value

-- an entry of another kind than a set of places
abbrev pub IsItems : Stored → Type 0
IsItems (Places s m) = ⊥
IsItems (Sources xs) = Unit {0}
IsItems (Atom x) = Unit {0}
IsItems (Atoms xs) = Unit {0}
IsItems (Graph n xs) = Unit {0}

-- the edges of a graph lead on within its nodes
abbrev pub EdgesLeadOn : Entry → Type 0
EdgesLeadOn (kind.Places xs) = Unit {0}
EdgesLeadOn (kind.Sources xs) = Unit {0}
EdgesLeadOn (kind.Atoms xs) = Unit {0}
EdgesLeadOn (kind.Graph nodes edges) = EachIn (LeadsOn nodes) edges

-- the sets of places among the entries are the slices of the pool from one number up to another, in order, and each
-- knows how many came before it
abbrev pub AreInPool : ℕ → List Stored → ℕ → Type 0
AreInPool start [] end = start ≡ end
AreInPool start (Places s m ∷ ks) end = (s ≡ start) × (m ≡ start) × AreInPool (start + 1) ks end
AreInPool start (Sources xs ∷ ks) end = AreInPool start ks end
AreInPool start (Atom x ∷ ks) end = AreInPool start ks end
AreInPool start (Atoms xs ∷ ks) end = AreInPool start ks end
AreInPool start (Graph n xs ∷ ks) end = AreInPool start ks end
