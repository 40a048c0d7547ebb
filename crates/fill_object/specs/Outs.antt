-- Edges by the node that they lead from.
use Rattle.std.specs.Prelude.{◌≡◌, ℕ, ◌<◌, List, length, Some, slice_get}
use Rattle.fill_arena.specs.declared.entry.Edge.{Edge}
use Rattle.fill_object.specs.declared.outs.Outs.{Outs}

-- no edge from the node stands at the place or after it
abbrev pub NoneOutFrom : List Edge → ℕ → ℕ → Type 0
NoneOutFrom edges node place = (k : ℕ) (e : Edge) → slice_get edges k ≡ Some e → e.from ≡ node → k < place

-- between an edge and the place that is kept for it none leads from the same node
abbrev pub NoneBetween : List Edge → ℕ → ℕ → Type 0
NoneBetween edges j place = (e : Edge) → slice_get edges j ≡ Some e → (k : ℕ) (f : Edge) → slice_get edges k ≡ Some f → f.from ≡ e.from → k < j → k < place

pub record AreOuts (edges : List Edge) (outs : Outs) : Type 0 where
  pub nodes : (k : ℕ) (e : Edge) → slice_get edges k ≡ Some e → e.from < length outs.latest.items
  pub latest : (n place : ℕ) → slice_get outs.latest.items n ≡ Some place → NoneOutFrom edges n place
  pub before : (j place : ℕ) → slice_get outs.before.items j ≡ Some place → NoneBetween edges j place
