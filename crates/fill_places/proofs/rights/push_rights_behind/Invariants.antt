use Rattle.std.proofs.Common.{length}
use Rattle.fill_places.specs.Sides.{RightAt}
use Rattle.fill_places.specs.Entries.{AddsEntries, BeginsWithIt}
use Rattle.fill_places.proofs.rights.push_rights_behind.Given as goal

abbrev pub invariant-loop-e : goal.invariant-loop-e
invariant-loop-e l = AddsEntries (RightAt l.token_set l.t) (length l.t) l.initial.out.items l.out.items (BeginsWithIt l.token l.layer l.e-index)
