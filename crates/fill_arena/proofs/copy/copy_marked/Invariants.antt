use Rattle.std.proofs.Common.{◌≡◌, length}
use Rattle.fill_arena.specs.Copied.{AreCopied}
use Rattle.fill_arena.proofs.copy.copy_marked.Given as goal

abbrev pub invariant-loop-number : goal.invariant-loop-number
invariant-loop-number l =
    record {
      long : length l.table.items ≡ l.number;
      copied : AreCopied l.arena l.marks l.made l.table.items;
    }
