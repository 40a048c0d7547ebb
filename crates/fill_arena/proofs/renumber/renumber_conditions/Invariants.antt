use Rattle.std.proofs.Common.{take}
use Rattle.std.specs.List.{AllZip}
use Rattle.fill_arena.specs.Copied.{ConditionBecomes, Takes}
use Rattle.fill_arena.proofs.renumber.renumber_conditions.Given as goal

abbrev pub invariant-loop-item : goal.invariant-loop-item
invariant-loop-item l = AllZip (ConditionBecomes (Takes l.table)) (take l.item-index l.items) l.made
