-- For each value that trees of a property have, a tree that has it and is at most each of those that do.
use Rattle.std.specs.Prelude.{◌≡◌, ◌⊎◌, List, Option}
use Rattle.std.specs.declared.cmp.Ordering.{Ordering}
use Rattle.fill_text.specs.Orders.{AtMost}
use Rattle.fill_tree.specs.Value.{IsValue}
use Rattle.fill_arena.specs.Contents.{In, EachIn, SomeIn}

-- the first is the second, or serves for it
abbrev pub IsOrServes : {E : Type 0} → (E → E → Type 0) → E → E → Type 0
IsOrServes serves x y = (x ≡ y) ⊎ serves x y

-- one more was taken into a list; for each that is left out one is there that serves for it
pub record Takes {E : Type 0} (serves : E → E → Type 0) (old : List E) (next : E) (new : List E) : Type 0 where
  pub from : EachIn (λ x. In x old ⊎ (x ≡ next)) new
  pub covers : EachIn (λ y. SomeIn (λ x. IsOrServes serves x y) new) old
  pub there : SomeIn (λ x. IsOrServes serves x next) new

-- how trees are listed
pub record Kind (E A : Type 0) : Type 1 where
  -- the tree that is listed
  pub tree : E → A
  -- what is listed with it is so
  pub Right : E → Type 0
  -- the first serves for the second
  pub Like : E → E → Type 0
  -- it serves for a tree that may not be listed
  pub For : A → E → Type 0

-- trees with their values: what serves for a tree has its value and is at most the tree
abbrev pub valued : {E A V : Type 0} → (E → A) → (E → Option V) → (A → A → Ordering) → (A → V → Type 0) → Kind E A
valued tree value order Is = record {
  tree = tree;
  Right = λ x. IsValue (Is (tree x)) (value x);
  Like = λ x y. AtMost (order (tree x) (tree y)) × (value x ≡ value y);
  For = λ y x. AtMost (order (tree x) y) × IsValue (Is y) (value x);
}

-- the list has grown by trees of the property, among them one that serves for each of these
pub record Gains {E A : Type 0} (k : Kind E A) (Q : A → Type 0) (old new : List E) : Type 0 where
  pub from : EachIn (λ x. In x old ⊎ (Q (k.tree x) × k.Right x)) new
  pub covers : EachIn (λ y. SomeIn (λ x. k.Like x y) new) old
  pub there : (y : A) → Q y → SomeIn (k.For y) new

-- each tree that is listed has the property, and for each that has it one is listed that serves for it
pub record AreLeasts {E A : Type 0} (k : Kind E A) (Q : A → Type 0) (xs : List E) : Type 0 where
  pub each : EachIn (λ x. Q (k.tree x) × k.Right x) xs
  pub least : (y : A) → Q y → SomeIn (k.For y) xs
