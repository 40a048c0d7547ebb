use Rattle.std.proofs.Common.{◌≡◌, ◌*◌, take}
use Rattle.fill_split.specs.Standing.{ones}
use Rattle.fill_split.proofs.singles.singles.Given as goal

abbrev pub invariant-loop-i : goal.invariant-loop-i
invariant-loop-i g l = l.singles ≡ ones (take (2 * l.i) l.kept)
