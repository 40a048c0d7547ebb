-- The best programs of examples: the first of those that explain them.
use Rattle.std.specs.Prelude.{◌≡◌, ℕ, List, ◌∷◌}
use Rattle.fill_tree.specs.Order.{program_cmp}
use Rattle.fill_tree.specs.Tree.{Atoms}
use Rattle.fill_tree.specs.declared.user.Example.{Example}
use Rattle.fill_best.specs.First.{AreFirst}
use Rattle.fill_space.specs.Ground.{Ground, ChosenOn, ExplainsOn}

-- the first k programs that explain the examples, in the order of programs; all of them where they are fewer
abbrev pub AreBestOn : Ground → List Example → ℕ → List Atoms → Type 0
AreBestOn g examples k programs = AreFirst (program_cmp g.settings.profile.prices) (ExplainsOn g examples) k programs

-- the list begins with the chosen program
abbrev pub BeginsWithChosen : Ground → List Example → List Atoms → Type 0
BeginsWithChosen g examples programs = (p : Atoms) × (rest : List Atoms) × (programs ≡ p ∷ rest) × ChosenOn g examples p
