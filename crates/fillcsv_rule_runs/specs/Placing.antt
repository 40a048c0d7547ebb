-- The code's places, and why columns have none.
use Rattle.std.specs.Prelude.{◌≡◌, ℕ, ◌<◌, length, All, ⊤, Result, Err}
use Rattle.fillcsv_rule_runs.specs.Places.{Misplaced, Missing, Ambiguous, PlacesData}
use Rattle.fillcsv_rule_runs.specs.declared.places.Places.{Places}
use Rattle.fillcsv_rule_runs.specs.declared.places.Unplaced.{Unplaced}
use Rattle.fillcsv_rule_runs.specs.declared.places.Unplaced.TheVariants as unplaced

-- what the places of the code stand for
abbrev pub places_data : Places → PlacesData
places_data p = record { sources = p.sources.items; target = p.target }

-- why there are no places; out of memory is free
abbrev pub Refuses : {A : Type 0} → Result A Misplaced → Unplaced → Type 0
Refuses r (unplaced.Missing name) = r ≡ Err (Missing name.now)
Refuses r (unplaced.Ambiguous name) = r ≡ Err (Ambiguous name.now)
Refuses r unplaced.NoMemory = ⊤

-- as many columns, which count from 1
pub record ArePlaces (count : ℕ) (p : PlacesData) : Type 0 where
  pub sources : All (λ column. 0 < column) p.sources
  pub many : length p.sources ≡ count
  pub target : 0 < p.target
