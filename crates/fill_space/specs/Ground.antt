-- What programs are learned over, and what they explain there.
use Rattle.std.specs.Prelude.{◌≡◌, ℕ, ◌≤◌, List, length}
use Rattle.fill_tree.specs.Chosen.{Explains, Fits, IsChosen}
use Rattle.fill_tree.specs.Cost.{program_cost}
use Rattle.fill_tree.specs.Tree.{Atoms}
use Rattle.fill_tree.specs.declared.user.Example.{Example}
use Rattle.fill_tree.specs.declared.user.TheConstants.{MOST_CHARACTERS}
pub use Rattle.fill_space.specs.declared.ground.Ground.{Ground}

-- the program explains the examples
abbrev pub ExplainsOn : Ground → List Example → Atoms → Type 0
ExplainsOn g examples p = Explains g.settings g.sheet g.tables examples p

-- some program does
abbrev pub FitsOn : Ground → List Example → Type 0
FitsOn g examples = Fits g.settings g.sheet g.tables examples

-- it is the program that is chosen for them
abbrev pub ChosenOn : Ground → List Example → Atoms → Type 0
ChosenOn g examples p = IsChosen g.settings g.sheet g.tables examples p

-- what the examples weigh: the cost of their chosen program, by the prices of the settings
abbrev pub WeighsOn : Ground → List Example → ℕ → Type 0
WeighsOn g examples n = (p : Atoms) × ChosenOn g examples p × (program_cost g.settings.profile.prices p ≡ n)

-- the sheet has the example's row, and its text is short enough to learn from
pub record MayStand (g : Ground) (e : Example) : Type 0 where
  pub first : 1 ≤ e.row
  pub last : e.row ≤ length g.sheet.rows
  pub short : length e.text ≤ MOST_CHARACTERS
