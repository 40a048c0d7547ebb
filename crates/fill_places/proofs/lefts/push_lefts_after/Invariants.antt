use Rattle.std.proofs.Common.{◌+◌, length}
use Rattle.fill_places.specs.Sides.{LeftAt}
use Rattle.fill_places.specs.Entries.{AddsEntries, EndsWithOne}
use Rattle.fill_places.proofs.lefts.push_lefts_after.Given as goal

abbrev pub invariant-loop-i : goal.invariant-loop-i
invariant-loop-i l = AddsEntries (LeftAt l.token_set l.t) (length l.t) l.initial.out.items l.out.items (EndsWithOne l.e.seq (l.i + 1))
