use Rattle.std.proofs.Common.{◌≡◌, List, All, Some, nat_eq}
use Rattle.std.specs.HashMap.{get}
use Rattle.fill_tokens.specs.declared.prices.Prices.{Prices}
use Rattle.fill_arena.specs.declared.entry.Entry.{Entry}
use Rattle.fill_space.specs.Met.{AreRenamed}
use Rattle.fill_space.specs.Weighed.{AreWeighed}
use Rattle.fill_space.proofs.carried.carry_weights.Given as goal

abbrev pub invariant-loop-graph : goal.invariant-loop-graph
invariant-loop-graph l =
    record {
      found : All (λ e. get nat_eq l.weights.table e.0 ≡ Some e.1) l.graph-iterator;
      told : (prices : Prices) (c d : List Entry) → AreWeighed prices c l.weights → AreRenamed c d l.renaming → AreWeighed prices d l.carried;
    }
