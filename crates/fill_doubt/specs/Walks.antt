-- What walks over a graph's edges spell, for the answers of each edge.
use Rattle.std.specs.Prelude.{◌≡◌, ◌≢◌, ◌⊎◌, ℕ, ◌+◌, List, [], ◌∷◌, ◌++◌, Bool, true, Option, None, Some, slice_get, length, drop}
use Rattle.fill_arena.specs.Contents.{In}
use Rattle.fill_arena.specs.declared.entry.Edge.{Edge}

-- the answer of two programs one after the other
abbrev pub joined : Option (List ℕ) → Option (List ℕ) → Option (List ℕ)
joined (Some a) (Some b) = Some (a ++ b)
joined (Some a) None = None
joined None b = None

-- a choice of answers along the walk has the answer
abbrev pub Spells : (Edge → Option (List ℕ) → Type 0) → List Edge → List Edge → ℕ → ℕ → Option (List ℕ) → Type 0
Spells G edges [] from to v = (from ≡ to) × (v ≡ Some [])
Spells G edges (e ∷ walk) from to v =
    In e edges × (e.from ≡ from) × ((a : Option (List ℕ)) × (b : Option (List ℕ)) × G e a × Spells G edges walk e.to to b × (v ≡ joined a b))

abbrev pub Reads : (Edge → Option (List ℕ) → Type 0) → List Edge → ℕ → ℕ → Option (List ℕ) → Type 0
Reads G edges from to v = (walk : List Edge) × Spells G edges walk from to v

-- two different answers are read
abbrev pub Differs : (Edge → Option (List ℕ) → Type 0) → List Edge → ℕ → Type 0
Differs G edges last = (a : Option (List ℕ)) × (b : Option (List ℕ)) × Reads G edges 0 last a × Reads G edges 0 last b × (a ≢ b)

-- the node is marked
abbrev pub IsMarked : List Bool → ℕ → Type 0
IsMarked marks n = slice_get marks n ≡ Some true

-- the node that the edge leads to is marked, where that which it comes from is and the edge has a value
pub record Follows (G : Edge → Option (List ℕ) → Type 0) (e : Edge) (old new : List Bool) : Type 0 where
  pub kept : (n : ℕ) → IsMarked old n → IsMarked new n
  pub sound : (n : ℕ) → IsMarked new n → IsMarked old n ⊎ ((n ≡ e.to) × IsMarked old e.from × ((t : List ℕ) × G e (Some t)))
  pub closed : (t : List ℕ) → G e (Some t) → IsMarked old e.from → IsMarked new e.to

-- the node has a length
abbrev pub IsAt : List (Option ℕ) → ℕ → ℕ → Type 0
IsAt lengths n a = slice_get lengths n ≡ Some (Some a)

-- each length is that of a front of the text that is read up to the node
pub record AreLaid (G : Edge → Option (List ℕ) → Type 0) (edges : List Edge) (text : List ℕ) (lengths : List (Option ℕ)) : Type 0 where
  pub laid : (n a : ℕ) → IsAt lengths n a → (u : List ℕ) × (r : List ℕ) × (text ≡ u ++ r) × (length u ≡ a) × Reads G edges 0 n (Some u)
  pub first : IsAt lengths 0 0

-- the piece stands in the text between the two nodes
pub record Agrees (text : List ℕ) (lengths : List (Option ℕ)) (from to : ℕ) (piece : List ℕ) : Type 0 where
  pub start : ℕ
  pub at : IsAt lengths from start
  pub ends : IsAt lengths to (start + length piece)
  pub rest : List ℕ
  pub stands : drop start text ≡ piece ++ rest

-- the piece does not
pub record Clashes (text : List ℕ) (lengths : List (Option ℕ)) (from to : ℕ) (piece : List ℕ) : Type 0 where
  pub start : ℕ
  pub at : IsAt lengths from start
  pub apart : ((rest : List ℕ) → drop start text ≢ piece ++ rest) ⊎ ((e : ℕ) × IsAt lengths to e × (e ≢ start + length piece))

abbrev pub KeepsLengths : List (Option ℕ) → List (Option ℕ) → Type 0
KeepsLengths old new = (n a : ℕ) → IsAt old n a → IsAt new n a

-- all answers of the edge are pieces that stand there
abbrev pub EdgeAgrees : (Edge → Option (List ℕ) → Type 0) → List ℕ → List (Option ℕ) → Edge → Type 0
EdgeAgrees G text lengths e = ¬ (G e None) × ((t : List ℕ) → G e (Some t) → Agrees text lengths e.from e.to t)

-- an answer of the edge is none, or a piece that does not stand there
abbrev pub EdgeClashes : (Edge → Option (List ℕ) → Type 0) → List ℕ → List (Option ℕ) → Edge → Type 0
EdgeClashes G text lengths e = G e None ⊎ ((t : List ℕ) × G e (Some t) × Clashes text lengths e.from e.to t)
