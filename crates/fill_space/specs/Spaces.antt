-- Spaces: numbers of graphs in which exactly the programs stand that explain some examples.
use Rattle.std.specs.Prelude.{◌↔◌, ℕ, List, [], take}
use Rattle.fill_tree.specs.Tree.{Atoms}
use Rattle.fill_tree.specs.declared.user.Example.{Example}
use Rattle.fill_arena.specs.Contents.{IsGraph}
use Rattle.fill_arena.specs.Stands.{ProgramStands}
use Rattle.fill_arena.specs.declared.entry.Entry.{Entry}
use Rattle.fill_object.specs.Guide.{IsGuideOf}
use Rattle.fill_object.specs.declared.guide.Guide.{Guide}
use Rattle.fill_space.specs.Ground.{Ground, ExplainsOn, FitsOn}

-- what spaces are learned over, and their arena
pub record SpacesData : Type 0 where
  pub ground : Ground
  pub arena : List Entry

-- spaces over the ground, of this arena
abbrev pub spaces_over : Ground → List Entry → SpacesData
spaces_over g arena = record { ground = g; arena = arena }

-- no spaces yet
abbrev pub no_spaces : Ground → SpacesData
no_spaces g = spaces_over g []

-- what is left of the spaces in the first m sets and graphs
abbrev pub first_spaces : ℕ → SpacesData → SpacesData
first_spaces m s = spaces_over s.ground (take m s.arena)

-- the space stands for the examples: exactly the programs that explain them stand in its graph, and some does
pub record SpaceStands (s : SpacesData) (space : ℕ) (examples : List Example) : Type 0 where
  pub graph : IsGraph s.arena space
  pub exact : (p : Atoms) → ProgramStands s.arena space p ↔ ExplainsOn s.ground examples p
  pub some : FitsOn s.ground examples

-- the second space, of the later spaces, stands for each list of examples that the first one stood for
abbrev pub Succeeds : SpacesData → SpacesData → ℕ → ℕ → Type 0
Succeeds before now space next = (examples : List Example) → SpaceStands before space examples → SpaceStands now next examples

-- the guide leads the search for objections in the space
abbrev pub GuideStands : SpacesData → ℕ → Guide → Type 0
GuideStands s space guide = IsGuideOf s.ground.settings.profile.prices s.arena space guide
