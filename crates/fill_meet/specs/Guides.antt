-- What finds the items of the second graph's sets that may have something in common with one of the first.
use Rattle.std.specs.Prelude.{◌≡◌, ℕ, List, Some, slice_get}
use Rattle.fill_tree.specs.Tree.{AtomTree}
use Rattle.fill_arena.specs.Contents.{Extends, SomeIn}
use Rattle.fill_arena.specs.declared.entry.AtomItem.{AtomItem}
use Rattle.fill_arena.specs.declared.entry.Entry.{Entry}
use Rattle.fill_meet.specs.Index.{IsSomeIndex}
use Rattle.fill_meet.specs.Mates.{AreMates}
use Rattle.fill_meet.specs.Sets.{ArePaired, AtomIn, HasItem, IsItem}
use Rattle.fill_meet.specs.declared.makes.Guide.{Guide}
use Rattle.fill_meet.specs.declared.makes.Task.{Task}

-- an index, and mates in it
pub record IsGuide (c : List Entry) (g : Guide) : Type 0 where
  pub index : IsSomeIndex c g.index
  pub mates : AreMates c g.index.places.sets.items g.mates

-- the guide is one, the first set has the item, and the second set has the number
pub record IsTask (c : List Entry) (k : Task) : Type 0 where
  pub guide : IsGuide c k.guide.now
  pub item : HasItem c k.first k.place
  pub number : slice_get k.guide.now.index.labels.sets.items k.number ≡ Some k.second

-- in every later arena an atom of x and of y is one of the list
abbrev pub IsShared : List Entry → List AtomItem → AtomItem → AtomItem → Type 0
IsShared c zs x y = (d : List Entry) (a : AtomTree) → Extends c d → AtomIn d x a → AtomIn d y a → SomeIn (λ v. AtomIn d v a) zs

-- so for the task's item and an item of the set of the number
abbrev pub IsSharedOf : List Entry → Task → List AtomItem → ℕ → ℕ → AtomItem → Type 0
IsSharedOf c k zs n j y = n ≡ k.number → (x : AtomItem) × IsItem c k.first k.place x × IsShared c zs x y

-- what was made of the first set's items before place i
abbrev pub IsMadeTo : List Entry → Task → ℕ → List AtomItem → Type 0
IsMadeTo c k i zs = ArePaired c k.first k.second i 0 zs
