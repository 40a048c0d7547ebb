use Rattle.std.proofs.Common.{◌<◌}
use Rattle.std.specs.Ordering.{nat_cmp}
use Rattle.fill_text.specs.Lists.{Adds}
use Rattle.fill_places.specs.Entries.{IsMarkedAt}
use Rattle.fill_places.proofs.list.marked_at.Given as goal

abbrev pub invariant-loop-i : goal.invariant-loop-i
invariant-loop-i l = Adds nat_cmp l.initial.numbers l.numbers (λ j. (j < l.i) × IsMarkedAt l.entries l.k j)
