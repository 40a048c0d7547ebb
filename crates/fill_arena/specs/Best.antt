-- The least of what has a property.
use Rattle.std.specs.Prelude.{◌≡◌, ◌⊎◌, Option, Some, None}
use Rattle.std.specs.declared.cmp.Ordering.{Ordering}
use Rattle.std.specs.declared.cmp.Ordering.TheVariants.{Less}
use Rattle.fill_text.specs.Orders.{AtMost}

-- it has the property, and is at most each that has it
pub record IsBest {A : Type 0} (order : A → A → Ordering) (P : A → Type 0) (x : A) : Type 0 where
  pub has : P x
  pub least : (y : A) → P y → AtMost (order x y)

-- the tree of what is kept is the best of a property; nothing is kept where nothing has it
abbrev pub IsBestOf : {T A : Type 0} → (T → A) → (A → A → Ordering) → (A → Type 0) → Option T → Type 0
IsBestOf tree order P None = (y : _) → ¬ (P y)
IsBestOf tree order P (Some x) = IsBest order P (tree x)

-- the lesser of two that may be absent; the first where they are alike
abbrev pub IsLesser : {T : Type 0} → (T → T → Ordering) → Option T → Option T → Option T → Type 0
IsLesser order None b r = r ≡ b
IsLesser order (Some x) None r = r ≡ Some x
IsLesser order (Some x) (Some y) r = ((r ≡ Some y) × (order y x ≡ Less)) ⊎ ((r ≡ Some x) × ¬ (order y x ≡ Less))
