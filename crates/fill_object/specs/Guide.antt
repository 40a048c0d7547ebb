-- What leads the search through a graph.
use Rattle.std.specs.Prelude.{◌≡◌, ℕ, ◌-◌, List, Some, slice_get}
use Rattle.fill_tokens.specs.declared.prices.Prices.{Prices}
use Rattle.fill_arena.specs.declared.entry.Edge.{Edge}
use Rattle.fill_arena.specs.declared.entry.Entry.{Entry}
use Rattle.fill_arena.specs.declared.entry.Entry.TheVariants.{Graph}
use Rattle.fill_object.specs.Bounds.{AreBounds}
use Rattle.fill_object.specs.Outs.{AreOuts}
use Rattle.fill_object.specs.declared.guide.Guide.{Guide}

pub record IsGuide (prices : Prices) (c : List Entry) (edges : List Edge) (last : ℕ) (guide : Guide) : Type 0 where
  pub outs : AreOuts edges guide.outs
  pub bounds : AreBounds prices c edges last guide.bounds

-- it is of the graph of this number
abbrev pub IsGuideOf : Prices → List Entry → ℕ → Guide → Type 0
IsGuideOf prices c g guide = (nodes : ℕ) (edges : List Edge) → slice_get c g ≡ Some (Graph nodes edges) → IsGuide prices c edges (nodes - 1) guide
