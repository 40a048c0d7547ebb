-- The first of a property by what they cost, with their costs.
use Rattle.std.specs.Prelude.{◌≡◌, ◌⊎◌, ℕ, List, Contains}
use Rattle.std.specs.declared.cmp.Ordering.{Ordering}
use Rattle.fill_best.specs.Costs.{by_cost}
use Rattle.fill_best.specs.First.{AreFirst}
use Rattle.fill_best.specs.declared.costed.Costed.{Costed}

-- the item has the property, and is listed with its cost
abbrev pub Priced : {A : Type 0} → (A → ℕ) → (A → Type 0) → Costed A → Type 0
Priced cost P x = (x.cost ≡ cost x.item) × P x.item

-- the first k of the property
abbrev pub AreCheapest : {A : Type 0} → (A → ℕ) → (A → A → Ordering) → (A → Type 0) → ℕ → List (Costed A) → Type 0
AreCheapest cost cmp P k xs = AreFirst (by_cost cmp) (Priced cost P) k xs

-- the first k of what was listed before and of the property
abbrev pub TakesIn : {A : Type 0} → (A → ℕ) → (A → A → Ordering) → (A → Type 0) → ℕ → List (Costed A) → List (Costed A) → Type 0
TakesIn cost cmp P k old new = AreFirst (by_cost cmp) (λ z. Contains old z ⊎ Priced cost P z) k new
