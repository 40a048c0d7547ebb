-- What is found of places in the shape of a text, and what it tells of the text.
use Rattle.std.specs.Prelude.{◌≡◌, ℕ, List, Option, None, Some, slice_get}
use Rattle.fill_tokens.specs.Value.{HasValue}
use Rattle.fill_tokens.specs.declared.place.Place.{Place}
use Rattle.fill_tree.specs.Value.{IsValue}
use Rattle.fill_arena.specs.Contents.{SomeIn}
use Rattle.fill_arena.specs.declared.entry.Entry.{Entry}
use Rattle.fill_shapes.specs.Stretched.{IsStretched}
use Rattle.fill_doubt.specs.Read.{IsReadIn}
use Rattle.fill_doubt.specs.declared.read.Read.{Read}
use Rattle.fill_doubt.specs.declared.shaped.Shaped.{Shaped}
use Rattle.fill_doubt.specs.declared.shapes.Shapes.{Shapes}

-- what was found is so, of each of the shapes
pub record ShapesStand (c : List Entry) (shapes : Shapes) : Type 0 where
  pub each : (i : ℕ) (x : Read) → slice_get shapes.reads.items i ≡ Some x → IsReadIn c x

-- the shape is the one of this number among those that were read
abbrev pub HasText : List Read → List ℕ → ℕ → Type 0
HasText reads w n = (x : Read) × (slice_get reads n ≡ Some x) × (x.text ≡ w)

abbrev pub IsReadAt : Shapes → List ℕ → ℕ → Type 0
IsReadAt shapes w n = HasText shapes.reads.items w n

-- each shape that was read keeps its number
abbrev pub KeepsReads : Shapes → Shapes → Type 0
KeepsReads old new = (w : List ℕ) (n : ℕ) → IsReadAt old w n → IsReadAt new w n

-- the shape is that of the text
abbrev pub IsShapeOf : Shaped → Type 0
IsShapeOf x = IsStretched x.shape.text x.text.now x.shape.bounds.items

-- a position in the shape, as one of the text
abbrev pub carried : List ℕ → Option ℕ → Option ℕ
carried bounds None = None
carried bounds (Some i) = slice_get bounds i

abbrev pub AreCarried : List ℕ → (Option ℕ → Type 0) → Option ℕ → Type 0
AreCarried bounds R o = (i : Option ℕ) × R i × (o ≡ carried bounds i)

-- the values of places that are asked of the text
abbrev pub AreAsked : List ℕ → List Place → Option ℕ → Type 0
AreAsked t places o = SomeIn (λ p. IsValue (HasValue p t) o) places
