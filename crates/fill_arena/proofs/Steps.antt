-- The next atom of a program leads along an edge.
use Rattle.std.proofs.lemmas.Bool.{cases_lt}
use Rattle.std.proofs.Common.{◌≡◌, ◌≢◌, inl, inr, ℕ, ◌+◌, ◌<◌, ◌≤◌, ◌↔◌, List, ◌∷◌, map, drop, Some, slice_get, arith}
use Rattle.std.proofs.lemmas.List.{drop_more}
use Rattle.std.proofs.lemmas.Option.{slice_get_within, get_or_from_slice_get}
use Rattle.fill_tree.specs.Meaning.{atom_tree}
use Rattle.fill_tree.specs.Tree.{atoms_of}
use Rattle.fill_tree.specs.declared.tree.Atom.{Atom}
use Rattle.fill_arena.specs.Contents.{SomeIn}
use Rattle.fill_arena.specs.Stands.{AtomStands, Walks}
use Rattle.fill_arena.specs.declared.entry.Entry.{Entry}
use Rattle.fill_arena.specs.declared.entry.Edge.{Edge}

-- along the edge, from a node, the atom and then those after the place
abbrev pub CarriesWalk : List Entry → List Edge → ℕ → List Atom → ℕ → ℕ → Atom → Edge → Type 0
CarriesWalk c edges last atoms next at a e =
    (e.from ≡ at) × AtomStands c e.atoms (atom_tree a) × Walks (atoms_of (map atom_tree (drop (next + 1) atoms))) c edges last e.to

-- the atoms from a place on are the one at the place and those after it
pub next_atom : (atoms : List Atom) (next : ℕ) (a : Atom) → slice_get atoms next ≡ Some a → drop next atoms ≡ a ∷ drop (next + 1) atoms
next_atom atoms next a there =
    let lt = slice_get_within atoms next a there in
    let same = get_or_from_slice_get atoms next a a there in
    rw same at (drop_more atoms next a lt)

pub walk_on : (c : List Entry) (edges : List Edge) (last : ℕ) (atoms : List Atom) (next at : ℕ) (a : Atom) → slice_get atoms next ≡ Some a
    → SomeIn (CarriesWalk c edges last atoms next at a) edges ↔ Walks (atoms_of (map atom_tree (drop next atoms))) c edges last at
walk_on c edges last atoms next at a there = rw (next_atom atoms next a there) ((λ h. h), (λ h. h))

pub is_before : (n m : ℕ) → n ≤ m → n ≢ m → n < m
is_before n m le other = elim (cases_lt n m) [
  | inl lt ↦ lt
  | inr past ↦ let same : n ≡ m = omega arith in absurd (other same)
]
