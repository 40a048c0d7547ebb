-- The programs that explain examples and answer otherwise on a row than was said, and the least of them.
use Rattle.std.specs.Prelude.{ℕ, ◌<◌, List, Option, None, Some}
use Rattle.fill_tree.specs.Chosen.{IsLeast}
use Rattle.fill_tree.specs.Cost.{program_cost}
use Rattle.fill_tree.specs.Meaning.{program_tree}
use Rattle.fill_tree.specs.Tree.{Atoms}
use Rattle.fill_tree.specs.Value.{IsValue, ProgramIs}
use Rattle.fill_tree.specs.declared.user.Example.{Example}
use Rattle.fill_object.specs.Objector.{Answers}
use Rattle.fill_object.specs.declared.graph.Objection.{Objection}
use Rattle.fill_space.specs.Ground.{ExplainsOn}
use Rattle.fill_space.specs.declared.ground.Ground.{Ground}

-- a program that objects, and its value on the row
pub record ObjectionTree : Type 0 where
  pub program : Atoms
  pub text : Option (List ℕ)

-- what the code's objection stands for
abbrev pub objection_tree : Objection → ObjectionTree
objection_tree o = record { program = program_tree o.program; text = o.text }

-- the program explains the examples, and its value on the row is not what was said: a text, or none
pub record ObjectsOn (g : Ground) (examples : List Example) (row : ℕ) (said : Option (List ℕ)) (p : Atoms) : Type 0 where
  pub explains : ExplainsOn g examples p
  pub otherwise : ¬ (Answers g.sheet g.tables row said p)

-- the program objects, and no program that does is before it; with its value on the row
pub record IsObjectionOn (g : Ground) (examples : List Example) (row : ℕ) (said : Option (List ℕ)) (o : ObjectionTree) : Type 0 where
  pub least : IsLeast g.settings.profile.prices (ObjectsOn g examples row said) o.program
  pub value : IsValue (ProgramIs g.sheet g.tables row o.program) o.text

-- the objection to what was said: none where every program that explains the examples answers so
abbrev pub ObjectionIs : Ground → List Example → ℕ → Option (List ℕ) → Option ObjectionTree → Type 0
ObjectionIs g examples row said None = (p : Atoms) → ExplainsOn g examples p → Answers g.sheet g.tables row said p
ObjectionIs g examples row said (Some o) = IsObjectionOn g examples row said o

-- the objection to what was said, if it costs no more than the limit
abbrev pub ObjectionWithin : Ground → List Example → ℕ → Option (List ℕ) → ℕ → Option ObjectionTree → Type 0
ObjectionWithin g examples row said limit None = (p : Atoms) → ObjectsOn g examples row said p → limit < program_cost g.settings.profile.prices p
ObjectionWithin g examples row said limit (Some o) = IsObjectionOn g examples row said o
