-- The ties that lead to the last pair of nodes, and their edges.
use Rattle.std.specs.Prelude.{◌≡◌, ◌⊎◌, ℕ, ◌-◌, Bool, List, [], ◌∷◌, ◌++◌, length}
use Rattle.fill_arena.specs.Contents.{In, SomeIn, EachIn}
use Rattle.fill_arena.specs.Order.{IsTopological}
use Rattle.fill_arena.specs.Stands.{AtomStands}
use Rattle.fill_arena.specs.declared.entry.Entry.{Entry}
use Rattle.fill_arena.specs.declared.entry.Edge.{Edge}
use Rattle.fill_trim.specs.Marks.{IsMarked}
use Rattle.fill_meet.specs.Meet.{AreMet, AreApart}
use Rattle.fill_meet.specs.declared.ties.Tie.{Tie}

-- marks that the others had, and where a tie leads to a marked node its first node is marked
pub record AreClosed (ties : List Tie) (old new : List Bool) : Type 0 where
  pub extends : (m : ℕ) → IsMarked old m → IsMarked new m
  pub closed : EachIn (λ t. IsMarked new t.to → IsMarked new t.from) ties

-- a mark for each node, set at least where the node leads to the last one
pub record AreLive (nodes : ℕ) (ties : List Tie) (marks : List Bool) : Type 0 where
  pub long : length marks ≡ nodes
  pub last : IsMarked marks (nodes - 1)
  pub closed : EachIn (λ t. IsMarked marks t.to → IsMarked marks t.from) ties

-- the tie's edge, with the atoms of both its sets
pub record IsJoined (c : List Entry) (t : Tie) (e : Edge) : Type 0 where
  pub from : e.from ≡ t.from
  pub to : e.to ≡ t.to
  pub met : AreMet AtomStands c t.left t.right e.atoms

-- the tie has its edge, or has no atom
abbrev pub IsDone : List Entry → List Edge → Tie → Type 0
IsDone c edges t = SomeIn (IsJoined c t) edges ⊎ AreApart AtomStands c t.left t.right

-- edges of ties only, those into a node before those out of it, and each tie to a marked node is done
pub record AreJoined (c : List Entry) (live : List Bool) (ties : List Tie) (edges : List Edge) : Type 0 where
  pub sound : EachIn (λ e. SomeIn (λ t. IsJoined c t e) ties) edges
  pub covers : (t : Tie) → In t ties → IsMarked live t.to → IsDone c edges t
  pub ordered : IsTopological edges

-- what was done for one tie
abbrev pub IsJoinedTo : List Entry → Tie → List Edge → List Edge → Type 0
IsJoinedTo c t old new = ((new ≡ old) × AreApart AtomStands c t.left t.right) ⊎ ((e : Edge) × (new ≡ old ++ e ∷ []) × IsJoined c t e)
