use Rattle.std.proofs.Common.{◌≡◌, List, All, Some, nat_eq}
use Rattle.std.specs.HashMap.{get}
use Rattle.fill_arena.specs.declared.entry.Entry.{Entry}
use Rattle.fill_space.specs.Built.{AreBuilt}
use Rattle.fill_space.specs.Ground.{Ground}
use Rattle.fill_space.specs.Met.{AreRenamed}
use Rattle.fill_space.proofs.carried.carry_built.Given as goal

abbrev pub invariant-loop-row : goal.invariant-loop-row
invariant-loop-row l =
    record {
      found : All (λ e. get nat_eq l.built.table e.0 ≡ Some e.1) l.row-iterator;
      told : (g : Ground) (c d : List Entry) → AreBuilt g c l.built → AreRenamed c d l.renaming → AreBuilt g d l.carried;
    }
