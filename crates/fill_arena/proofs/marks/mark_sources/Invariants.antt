use Rattle.std.proofs.Common.{◌≡◌, take}
use Rattle.std.specs.List.{fold, flat_map}
use Rattle.fill_arena.specs.Copied.{marked}
use Rattle.fill_arena.specs.Named.{source_names}
use Rattle.fill_arena.proofs.marks.mark_sources.Given as goal

abbrev pub invariant-loop-item : goal.invariant-loop-item
invariant-loop-item l = l.marks ≡ fold marked l.fn.marks (flat_map source_names (take l.item-index l.items))
