use Rattle.std.proofs.Common.{◌+◌}
use Rattle.fill_tokens.specs.Place.{seq_cmp}
use Rattle.fill_text.specs.Lists.{Adds}
use Rattle.fill_guard.specs.Listed.{OfOne}
use Rattle.fill_guard.proofs.sequences.push_ones.Given as goal

abbrev pub invariant-loop-i : goal.invariant-loop-i
invariant-loop-i l = Adds seq_cmp l.initial.out.items l.out.items (OfOne l.token_set (l.i + 1))
