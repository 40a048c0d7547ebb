-- The texts that are typed for a run: among its words, and in a dialogue.
use Rattle.std.specs.Prelude.{◌≡◌, ℕ, List, Bool, true, false, Option}
use Rattle.fill_tree.specs.declared.user.Example.{Example}
use Rattle.fill_space.specs.declared.ground.Ground.{Ground}
use Rattle.fillcsv_dialogue.specs.Dialogue.{AreAnswered}
use Rattle.fillcsv_dialogue.specs.Told.{Grew}
use Rattle.fillcsv_run.specs.Said.{Says}

-- what standard input had left before a run, where it tells that, and how many reads had failed before and after it
pub record Heard : Type 0 where
  pub left : Option (List ℕ)
  pub before : ℕ
  pub now : ℕ

abbrev pub heard : Option (List ℕ) → ℕ → ℕ → Heard
heard left before now = record { left = left; before = before; now = now }

-- the typed texts: those of the words, and with `--ask` those of a dialogue over the lines of standard input beside them
abbrev pub AreTyped : Bool → Ground → List Example → Heard → List Example → Type 0
AreTyped false g words input typed = typed ≡ words
AreTyped true g words input typed = AreAnswered g words input.left input.before input.now typed

-- a line is said, and with `--ask` questions before it
abbrev pub SaysAfter : Bool → Option (List ℕ) → Option (List ℕ) → ℕ → ℕ → List ℕ → Type 0
SaysAfter false old new before now line = Says old new before now line
SaysAfter true old new before now line = (mid : Option (List ℕ)) × (at : ℕ) × Grew old mid before at × Says mid new at now line
