-- Who objects on a row: the least program of the row's branch that answers otherwise there than the branch's own program.
use Rattle.std.specs.Prelude.{◌≡◌, ℕ, List, [], ◌∷◌, Option, None}
use Rattle.fill_tree.specs.Value.{IsValue, ProgramIs}
use Rattle.fill_tree.specs.declared.user.Example.{Example}
use Rattle.fill_space.specs.Objector.{ObjectionIs, ObjectionTree}
use Rattle.fill_space.specs.declared.ground.Ground.{Ground}
use Rattle.fill_session.specs.Answers.{IsBranchAt}
use Rattle.fill_session.specs.Branches.{AreBranches, BranchData}

-- the objection to what the row's branch answers there, among the programs that explain the branch's examples; without examples there is none
abbrev pub ObjectorIs : Ground → List Example → ℕ → Option ObjectionTree → Type 0
ObjectorIs g [] row found = found ≡ None
ObjectorIs g (e ∷ es) row found = (branches : List BranchData) × (n : ℕ) × (b : BranchData) × (text : Option (List ℕ))
    × AreBranches g (e ∷ es) branches × IsBranchAt g.sheet row branches n b × IsValue (ProgramIs g.sheet g.tables row b.program) text
    × ObjectionIs g b.examples row text found
