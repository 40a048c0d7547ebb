use Rattle.std.proofs.Common.{◌≡◌, ℕ, ◌<◌, length, Some, slice_get}
use Rattle.fill_arena.specs.declared.entry.Edge.{Edge}
use Rattle.fill_meet.proofs.few.first_nodes.Given as goal

abbrev pub invariant-loop-i : goal.invariant-loop-i
invariant-loop-i l =
    record {
      long : length l.froms.items ≡ length l.edges;
      each : (k : ℕ) (e : Edge) → k < l.i → slice_get l.edges k ≡ Some e → slice_get l.froms.items k ≡ Some e.from;
    }
