use Rattle.std.proofs.Common.{◌≤◌, ◌*◌}
use Rattle.fill_tokens.specs.Value.{IsCount}
use Rattle.fill_places.specs.Bits.{BothSet}
use Rattle.fill_places.proofs.marks.common_words.Given as goal

abbrev pub invariant-loop-i : goal.invariant-loop-i
invariant-loop-i l = (l.count ≤ 64 * l.i) × IsCount (BothSet l.a l.b) (64 * l.i) l.count
