-- The branches of examples: how these are placed, and each branch's guard and program.
use Rattle.std.specs.Prelude.{◌≡◌, ℕ, ◌≤◌, List, [], ◌∷◌, length, map, Option, None, Some}
use Rattle.std.specs.List.{flat_map}
use Rattle.fill_tree.specs.Separate.{IsLeastGuard}
use Rattle.fill_tree.specs.Tree.{Atoms}
use Rattle.fill_tree.specs.declared.guard.Guard.{Guard}
use Rattle.fill_tree.specs.declared.profile.Placing as rule
use Rattle.fill_tree.specs.declared.profile.Placing.TheVariants as rules
use Rattle.fill_tree.specs.declared.profile.Profile.{Profile}
use Rattle.fill_tree.specs.declared.user.Example.{Example}
use Rattle.fill_split.specs.Placement.{Placed}
use Rattle.fill_split.specs.declared.place.TheConstants.{MOST_BRANCHES}
use Rattle.fill_split.specs.declared.rule.Placing.{Placing}
use Rattle.fill_split.specs.declared.rule.Placing.TheVariants.{First, Lightest}
use Rattle.fill_space.specs.declared.ground.Ground.{Ground}
use Rattle.fill_space.specs.Ground.{FitsOn, WeighsOn, ChosenOn}
use Rattle.fill_session.specs.Edits.{rows_of}

-- which branch takes an example, of those that fit: the first one, or the lightest one
abbrev pub rule_by : rule.Placing → Placing
rule_by rules.FirstFit = First
rule_by rules.LeastCost = Lightest

abbrev pub rule_of_profile : Profile → Placing
rule_of_profile profile = rule_by profile.placing

-- the examples are placed into these lists
abbrev pub ArePlaced : Ground → List Example → List (List Example) → Type 0
ArePlaced g examples lists = Placed (rule_of_profile g.settings.profile) (FitsOn g) (WeighsOn g) examples lists

-- a branch: its examples, its guard, which the last branch lacks, and its program
pub record BranchData : Type 0 where
  pub examples : List Example
  pub guard : Option Guard
  pub program : Atoms

-- the rows of all examples of these lists
abbrev pub all_rows : List (List Example) → List ℕ
all_rows lists = flat_map rows_of lists

-- the guard of a branch before these others: the least that tells its rows from theirs, and none where no branch follows
abbrev pub IsGuardBefore : Ground → List ℕ → List (List Example) → Option Guard → Type 0
IsGuardBefore g rows [] guard = guard ≡ None
IsGuardBefore g rows (later ∷ more) guard =
    (h : Guard) × (guard ≡ Some h) × IsLeastGuard g.settings g.sheet rows (all_rows (later ∷ more)) h

-- the lists of the branches' examples
abbrev pub lists_of : List BranchData → List (List Example)
lists_of branches = map (λ b. b.examples) branches

-- each branch has its guard and the chosen program of its examples
abbrev pub AreGuarded : Ground → List BranchData → Type 0
AreGuarded g [] = Unit {0}
AreGuarded g (b ∷ later) =
    IsGuardBefore g (rows_of b.examples) (lists_of later) b.guard × ChosenOn g b.examples b.program × AreGuarded g later

-- these are the branches of the examples, with their guards and programs
pub record AreBranches (g : Ground) (examples : List Example) (branches : List BranchData) : Type 0 where
  pub placed : ArePlaced g examples (lists_of branches)
  pub few : length branches ≤ MOST_BRANCHES
  pub guarded : AreGuarded g branches
