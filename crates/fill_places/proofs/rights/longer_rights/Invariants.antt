use Rattle.std.proofs.Common.{◌+◌, length}
use Rattle.fill_places.specs.Sides.{RightAt}
use Rattle.fill_places.specs.Entries.{AddsEntries, BeginsWithAny}
use Rattle.fill_places.proofs.rights.longer_rights.Given as goal

abbrev pub invariant-loop-i : goal.invariant-loop-i
invariant-loop-i l = AddsEntries (RightAt l.token_set l.t) (length l.t) l.initial.out.items l.out.items (BeginsWithAny l.layer (l.i + 1))
