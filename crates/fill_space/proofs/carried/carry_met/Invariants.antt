use Rattle.std.proofs.Common.{◌≡◌, List, All, Some}
use Rattle.std.specs.HashMap.{get}
use Rattle.fill_arena.specs.declared.entry.Entry.{Entry}
use Rattle.fill_meet.specs.Memory.{pair_eq}
use Rattle.fill_space.specs.Met.{AreRenamed, AreTold}
use Rattle.fill_space.proofs.carried.carry_met.Given as goal

abbrev pub invariant-loop-pair : goal.invariant-loop-pair
invariant-loop-pair l =
    record {
      found : All (λ e. get pair_eq l.met.table e.0 ≡ Some e.1) l.pair-iterator;
      told : (c d : List Entry) → AreTold c l.met → AreRenamed c d l.renaming → AreTold d l.carried;
    }
