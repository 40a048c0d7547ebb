-- Lists in order of exactly what has a property.
use Rattle.std.specs.Prelude.{◌≡◌, ◌↔◌, List, ◌++◌, Contains}
use Rattle.std.specs.List.{AllPairs}
use Rattle.std.specs.declared.cmp.Ordering.{Ordering}
use Rattle.std.specs.declared.cmp.Ordering.TheVariants.{Less}

-- the list rises strictly, so has nothing twice, and has exactly what has the property
pub record Lists {A : Type 0} (cmp : A → A → Ordering) (Q : A → Type 0) (xs : List A) : Type 0 where
  pub rising : AllPairs (λ x y. cmp x y ≡ Less) xs
  pub exact : (x : A) → Contains xs x ↔ Q x

-- the list has grown by the list of what has the property
abbrev pub Adds : {A : Type 0} → (A → A → Ordering) → List A → List A → (A → Type 0) → Type 0
Adds {A} cmp old new Q = (more : List A) × (new ≡ old ++ more) × Lists cmp Q more
