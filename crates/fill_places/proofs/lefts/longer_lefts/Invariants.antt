use Rattle.std.proofs.Common.{length}
use Rattle.fill_places.specs.Sides.{LeftAt}
use Rattle.fill_places.specs.Entries.{AddsEntries, EndsWithAny}
use Rattle.fill_places.proofs.lefts.longer_lefts.Given as goal

abbrev pub invariant-loop-e : goal.invariant-loop-e
invariant-loop-e l = AddsEntries (LeftAt l.token_set l.t) (length l.t) l.initial.out.items l.out.items (EndsWithAny l.layer l.e-index)
