use Rattle.std.proofs.Common.{◌≡◌, List, length}
use Rattle.fill_arena.specs.declared.entry.Entry.{Entry}
use Rattle.fill_sources.specs.Found.{AreRecalled, PlacesStand}
use Rattle.fill_sources.specs.Origins.{texts_in}
use Rattle.fill_sources.proofs.row_texts.recall_places.Given as goal

abbrev pub invariant-loop-k : goal.invariant-loop-k
invariant-loop-k l =
    record {
      long : length l.places.items ≡ l.k;
      recalled : (c : List Entry) → PlacesStand c l.memory → AreRecalled l.token_set c (texts_in l.texts) l.places.items;
    }
