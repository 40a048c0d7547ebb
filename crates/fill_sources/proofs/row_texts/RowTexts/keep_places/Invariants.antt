use Rattle.std.proofs.Common.{List}
use Rattle.fill_arena.specs.declared.entry.Entry.{Entry}
use Rattle.fill_sources.specs.Found.{PlacesStand}
use Rattle.fill_sources.specs.Sets.{AreRowTexts}
use Rattle.fill_sources.proofs.row_texts.RowTexts.keep_places.Given as goal

abbrev pub invariant-loop-k : goal.invariant-loop-k
invariant-loop-k l =
    record {
      stand : (c : List Entry) → AreRowTexts l.on c l.self → PlacesStand c l.initial.memory → PlacesStand c l.memory;
    }
