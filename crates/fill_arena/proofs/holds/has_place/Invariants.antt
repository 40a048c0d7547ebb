use Rattle.std.proofs.Common.{◌≡◌}
use Rattle.fill_arena.proofs.Scan.{NoneBelow}
use Rattle.fill_arena.proofs.holds.has_place.Given as goal

abbrev pub invariant-loop-i : goal.invariant-loop-i
invariant-loop-i l = NoneBelow (λ p. p ≡ l.place) l.places l.i
