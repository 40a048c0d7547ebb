-- The positions of a set's places in a text.
use Rattle.std.specs.Prelude.{◌≡◌, ℕ, List, Bool, false, Option}
use Rattle.fill_arena.specs.declared.entry.Entry.{Entry}
use Rattle.fill_doubt.specs.Answers.{PositionsHave}
use Rattle.fill_doubt.specs.Gives.{PlaceGives}
use Rattle.fill_doubt.specs.declared.answers.Positions.{Positions}

-- they are positions of the set's places, and where few will not do they are all of them
pub record ArePlaced (c : List Entry) (s : ℕ) (t : List ℕ) (few : Bool) (f : Positions) : Type 0 where
  pub sound : (o : Option ℕ) → PositionsHave f o → PlaceGives c s t o
  pub all : few ≡ false → (o : Option ℕ) → PlaceGives c s t o → PositionsHave f o
