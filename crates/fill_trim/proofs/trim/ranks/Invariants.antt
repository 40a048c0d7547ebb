use Rattle.std.proofs.Common.{◌≡◌, ◌*◌, ◌<◌, ℕ, length, Some, slice_get}
use Rattle.fill_trim.specs.Marks.{rank}
use Rattle.fill_trim.proofs.trim.ranks.Given as goal

abbrev pub invariant-loop-k : goal.invariant-loop-k
invariant-loop-k l =
    record {
      count : l.count ≡ rank l.node_marks (l.k * 32);
      long : length l.ranks.items ≡ l.k;
      each : (n : ℕ) → n < l.k → slice_get l.ranks.items n ≡ Some (rank l.node_marks (n * 32));
    }
