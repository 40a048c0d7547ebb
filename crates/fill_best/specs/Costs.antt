-- Items with what they cost.
use Rattle.std.specs.Prelude.{ℕ, ◌+◌}
use Rattle.std.specs.declared.cmp.Ordering.{Ordering}
use Rattle.std.specs.Ordering.{nat_cmp, ordering_then}
use Rattle.fill_best.specs.declared.costed.Costed.{Costed}

-- by the cost, and then by the order of what costs the same
abbrev pub by_cost : {A : Type 0} → (A → A → Ordering) → Costed A → Costed A → Ordering
by_cost cmp x y = ordering_then (nat_cmp x.cost y.cost) (cmp x.item y.item)

-- what two items make, at the costs of both and of their link
abbrev pub linked : {A B D : Type 0} → (A → B → D) → ℕ → Costed A → Costed B → Costed D
linked make link x y = record { cost = link + x.cost + y.cost; item = make x.item y.item }
