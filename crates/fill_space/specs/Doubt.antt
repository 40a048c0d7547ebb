-- Rows on which the programs that explain examples answer differently.
use Rattle.std.specs.Prelude.{◌≢◌, ℕ, List, Option}
use Rattle.fill_tree.specs.Tree.{Atoms}
use Rattle.fill_tree.specs.Value.{IsValue, ProgramIs}
use Rattle.fill_tree.specs.declared.user.Example.{Example}
use Rattle.fill_space.specs.Ground.{Ground, ExplainsOn}

-- some program that explains the examples answers so on the row: its value, or none where it has none
abbrev pub AnswersOn : Ground → List Example → ℕ → Option (List ℕ) → Type 0
AnswersOn g examples row o = (p : Atoms) × ExplainsOn g examples p × IsValue (ProgramIs g.sheet g.tables row p) o

-- two programs that explain the examples answer differently on the row
abbrev pub IsDoubtful : Ground → List Example → ℕ → Type 0
IsDoubtful g examples row = (a : Option (List ℕ)) × (b : Option (List ℕ)) × AnswersOn g examples row a × AnswersOn g examples row b × (a ≢ b)
