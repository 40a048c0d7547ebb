use Rattle.std.proofs.Common.{◌≡◌, ◌+◌, ◌<◌, ◌≤◌, ℕ, Some, slice_get}
use Rattle.fill_arena.specs.declared.entry.Edge.{Edge}
use Rattle.fill_object.specs.Bounds.{number_at}
use Rattle.fill_object.proofs.bounds.are_rest_costs.Given as goal

abbrev pub invariant-loop-i : goal.invariant-loop-i
invariant-loop-i l = (k : ℕ) (e : Edge) → k < l.i → slice_get l.edges k ≡ Some e → number_at l.rests e.from ≤ number_at l.costs k + number_at l.rests e.to
