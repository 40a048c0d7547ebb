-- The edges of two graphs in pairs: a pair of nodes has the number i * width + j.
use Rattle.std.specs.Prelude.{◌≡◌, ℕ, ◌+◌, ◌-◌, ◌*◌, List}
use Rattle.fill_tree.specs.Tree.{Atoms}
use Rattle.fill_arena.specs.Contents.{SomeIn, EachIn, Extends, IsAtomSet}
use Rattle.fill_arena.specs.Stands.{AtomStands, Walks}
use Rattle.fill_arena.specs.declared.entry.Entry.{Entry}
use Rattle.fill_arena.specs.declared.entry.Edge.{Edge}
use Rattle.fill_trim.specs.Trim.{AreEdges}
use Rattle.fill_meet.specs.Meet.{AreMet}

-- the edge between the pairs of nodes, with the atoms of both
pub record IsPair (c : List Entry) (width : ℕ) (x y e : Edge) : Type 0 where
  pub from : e.from ≡ x.from * width + y.from
  pub to : e.to ≡ x.to * width + y.to
  pub met : AreMet AtomStands c x.atoms y.atoms e.atoms

-- the edge of some pair
abbrev pub IsPairOf : List Entry → ℕ → List Edge → List Edge → Edge → Type 0
IsPairOf c width xs ys e = SomeIn (λ x. SomeIn (λ y. IsPair c width x y e) ys) xs

-- edges of pairs only, and in every later arena a program that walks over both walks over them
pub record IsProduct (c : List Entry) (height width : ℕ) (xs ys edges : List Edge) : Type 0 where
  pub sound : EachIn (IsPairOf c width xs ys) edges
  pub whole : (d : List Entry) → Extends c d → (p : Atoms) → Walks p d xs (height - 1) 0 → Walks p d ys (width - 1) 0 → Walks p d edges (height * width - 1) 0

-- the edges to be paired, and their sets
pub record ArePairable (c : List Entry) (height width : ℕ) (xs ys : List Edge) : Type 0 where
  pub first : AreEdges height xs
  pub second : AreEdges width ys
  pub left : EachIn (λ e. IsAtomSet c e.atoms) xs
  pub right : EachIn (λ e. IsAtomSet c e.atoms) ys
