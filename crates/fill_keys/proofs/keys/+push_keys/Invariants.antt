use Rattle.std.proofs.Common.{◌≡◌, ◌-◌, length}
use Rattle.fill_text.specs.Lists.{Adds}
use Rattle.fill_keys.specs.Keys.{keys_cmp}
use Rattle.fill_keys.proofs.SoFar.{GoesOnBefore}
use Rattle.fill_keys.proofs.keys.+push_keys.Given as goal

abbrev pub decreases-push_keys : goal.decreases-push_keys
decreases-push_keys l = l.size - length l.columns.now.items

abbrev pub invariant-loop-column : goal.invariant-loop-column
invariant-loop-column l = (l.columns.items ≡ l.initial.columns.items)
    × Adds keys_cmp l.initial.keys l.keys (GoesOnBefore l.tables l.ranked.table l.size l.initial.columns.items l.column)
